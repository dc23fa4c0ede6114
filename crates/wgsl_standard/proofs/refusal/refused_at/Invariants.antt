use Rattle.std.proofs.Common.{ℕ, ◌<◌, ◌+◌, take}
use Rattle.wgsl_standard.proofs.Common.{SomeTakesFirst, operands_view}
use Rattle.wgsl_standard.proofs.refusal.refused_at.Given as goal

abbrev pub invariant-loop-n : goal.invariant-loop-n
invariant-loop-n l = (m : ℕ) → m < l.n → SomeTakesFirst l.overloads (operands_view (take (m + 1) l.operands))
