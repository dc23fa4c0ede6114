use Rattle.std.proofs.Common.{◌≡◌, drop}
use Rattle.wgsl_standard.proofs.Common.{in_order, first_resource}
use Rattle.wgsl_standard.proofs.where_clause.resource_of.Given as goal

abbrev pub invariant-loop-index : goal.invariant-loop-index
invariant-loop-index l = first_resource (drop l.index (in_order l.parameters)) ≡ first_resource (in_order l.parameters)
