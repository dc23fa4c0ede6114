use Rattle.std.proofs.Common.{◌↔◌, ◌∙◌, IsTrue, sym, ap, subst, option_map}
use Rattle.wgsl_core.proofs.Common.{ConvertsTo, view}
use Rattle.wgsl_core.proofs.Vectors.{inside_vector, outside_vector}
use Rattle.wgsl_core.proofs.ty.Type.is_convertible_to_vector.Goals as goal

pub returns-then-is : goal.returns-then-is
returns-then-is c =
    inside_vector _ _ _ _ _ _ _ (sym c.layer.ensures ∙ ap (option_map _) c.in-Some.is) c.is.ensures c.if-is.true
    (subst (λ u. IsTrue c.is_convertible_to.result ↔ ConvertsTo (view c.in-Some.element.now) u) c.from.ensures c.is_convertible_to.ensures)

pub returns-else-is : goal.returns-else-is
returns-else-is c = outside_vector _ _ _ _ _ _ (sym c.layer.ensures ∙ ap (option_map _) c.in-Some.is) c.is.ensures c.if-is.false
