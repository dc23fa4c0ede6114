use Rattle.std.proofs.Common.{◌≡◌, drop}
use Rattle.wgsl_standard.proofs.Common.{bind_same, operands_view}
use Rattle.wgsl_standard.proofs.fitting.bind_same.Given as goal

abbrev pub invariant-loop-operand : goal.invariant-loop-operand
invariant-loop-operand l = bind_same l.concrete l.binding l.pattern (operands_view (drop l.operand-index l.operands)) ≡ bind_same l.concrete l.fn.binding l.pattern (operands_view l.operands)
