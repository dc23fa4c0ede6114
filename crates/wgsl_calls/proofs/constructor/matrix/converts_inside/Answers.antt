use Rattle.std.proofs.Common.{option_map, sym, ap, ◌∙◌}
use Rattle.wgsl_core.specs.View.{view}
use Rattle.wgsl_calls.proofs.Constructed.{inside_element, inside_whole}
use Rattle.wgsl_calls.proofs.constructor.matrix.converts_inside.Goals as goal

pub returns-in-Some : goal.returns-in-Some
returns-in-Some c = inside_element _ (view c.args.to.now) _ _ (sym c.layer.ensures ∙ ap (option_map _) c.in-Some.is) c.is_convertible_to.ensures

pub returns-in-None : goal.returns-in-None
returns-in-None c = inside_whole _ (view c.args.to.now) (sym c.layer.ensures ∙ ap (option_map _) c.in-None.is) c.is_convertible_to-in-None.ensures
