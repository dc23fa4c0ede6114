use Rattle.std.proofs.Common.{◌≡◌, drop}
use Rattle.wgsl_standard.proofs.Common.{in_order, bind_first, operands_view}
use Rattle.wgsl_standard.proofs.fitting.bind_listed.Given as goal

abbrev pub invariant-loop-index : goal.invariant-loop-index
invariant-loop-index l = bind_first l.concrete l.binding (drop l.index (in_order l.parameters)) (operands_view (drop l.index l.operands)) ≡ bind_first l.concrete l.fn.binding (in_order l.parameters) (operands_view l.operands)
