use Rattle.std.proofs.Common.{◌≡◌, take, map}
use Rattle.wgsl_core.specs.View.{view}
use Rattle.wgsl_types.proofs.conv.types_of.Given as goal

abbrev pub invariant-loop-value : goal.invariant-loop-value
invariant-loop-value g l = map view l.types.items ≡ map g.T.Ty.type_of (take l.value-index l.values)
