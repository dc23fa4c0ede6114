use Rattle.std.proofs.Common.{◌≡◌, All, take, map, Some}
use Rattle.wgsl_rules.specs.conversion.Converted.{all_to}
use Rattle.wgsl_core.specs.View.{view}
use Rattle.wgsl_types.proofs.conv.convert_all_to.Given as goal

abbrev pub invariant-loop-value : goal.invariant-loop-value
invariant-loop-value g l = record {
  given : all_to g.T.Convert.to (view l.ty) (take l.value-index l.values) ≡ Some (map g.T.Convert.shown l.converted.items);
  one_type : All (λ x. g.T.Ty.type_of x ≡ view l.ty) l.converted.items;
}
