use Rattle.std.proofs.Common.{◌≡◌, ◌++◌, map, drop}
use Rattle.wgsl_standard.proofs.Common.{view, parameters_for, in_order, operands_view}
use Rattle.wgsl_standard.proofs.resolved.parameter_types.Given as goal

abbrev pub invariant-loop-index : goal.invariant-loop-index
invariant-loop-index l = map view l.types.items ++ parameters_for l.substitution (drop l.index (in_order l.parameters)) (operands_view (drop l.index l.operands)) ≡ parameters_for l.substitution (in_order l.parameters) (operands_view l.operands)
