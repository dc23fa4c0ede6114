use Rattle.std.proofs.Common.{◌≡◌, drop}
use Rattle.wgsl_standard.proofs.Common.{some_takes_first, operands_view}
use Rattle.wgsl_standard.proofs.refusal.any_takes_first.Given as goal

abbrev pub invariant-loop-overload : goal.invariant-loop-overload
invariant-loop-overload l = some_takes_first (drop l.overload-index l.overloads) (operands_view l.operands) ≡ some_takes_first l.overloads (operands_view l.operands)
