use Rattle.std.proofs.Common.{◌≡◌, drop}
use Rattle.wgsl_standard.proofs.Common.{must_be_concrete, operands_view}
use Rattle.wgsl_standard.proofs.resolve.must_be_concrete.Given as goal

abbrev pub invariant-loop-operand : goal.invariant-loop-operand
invariant-loop-operand l = must_be_concrete (operands_view (drop l.operand-index l.operands)) ≡ must_be_concrete (operands_view l.operands)
