use Rattle.std.proofs.Common.{◌≡◌, take, map, Some}
use Rattle.wgsl_rules.specs.conversion.Converted.{all_to}
use Rattle.wgsl_core.specs.View.{view}
use Rattle.wgsl_types.proofs.conv.convert_all_inner_to.Given as goal

abbrev pub invariant-loop-value : goal.invariant-loop-value
invariant-loop-value g l = all_to g.T.Convert.inner_to (view l.ty) (take l.value-index l.values) ≡ Some (map g.T.Convert.shown l.converted.items)
