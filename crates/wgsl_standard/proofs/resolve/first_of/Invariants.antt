use Rattle.std.proofs.Common.{◌≡◌, ◌+◌, drop, option_map}
use Rattle.wgsl_standard.proofs.Common.{first_of, operands_view}
use Rattle.wgsl_standard.proofs.resolve.first_of.Given as goal

abbrev pub invariant-loop-index : goal.invariant-loop-index
invariant-loop-index l = option_map (λ p. (l.index + p.0, p.1)) (first_of l.concrete (drop l.index l.overloads) (operands_view l.operands)) ≡ first_of l.concrete l.overloads (operands_view l.operands)
