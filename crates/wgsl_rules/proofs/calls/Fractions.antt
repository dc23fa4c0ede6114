-- Each type that `frexp` and `modf` take has one shape and one precision.
use Rattle.std.proofs.Common.{◌≡◌, ℕ, zero, suc, refl, sym, ap, ◌∙◌}
use Rattle.wgsl_rules.proofs.Common.{Scalar, Bool, F32, F16, ResultShape, ResultPrecision, vec_of, WgslType, scalar, within, shaped, float_of}
use Rattle.wgsl_syntax.specs.declared.result_struct.ResultShape.TheVariants as shape
use Rattle.wgsl_syntax.specs.declared.result_struct.ResultPrecision.TheVariants as precision

components : WgslType → ℕ
components (within (vec_of n) t) = n
components t = zero

component : WgslType → Scalar
component (scalar s) = s
component (within (vec_of n) (scalar s)) = s
component t = Bool

shape_at : ℕ → ResultShape
shape_at (suc (suc zero)) = shape.Vec2
shape_at (suc (suc (suc zero))) = shape.Vec3
shape_at (suc (suc (suc (suc zero)))) = shape.Vec4
shape_at n = shape.Scalar

precision_at : Scalar → ResultPrecision
precision_at F32 = precision.F32
precision_at F16 = precision.F16
precision_at s = precision.Abstract

its_shape : (s : ResultShape) (a : Scalar) → shape_at (components (shaped s (scalar a))) ≡ s
unfolding shape_at components
its_shape shape.Scalar a = refl
its_shape _ a = refl

its_component : (s : ResultShape) (a : Scalar) → component (shaped s (scalar a)) ≡ a
unfolding component
its_component shape.Scalar a = refl
its_component _ a = refl

its_precision : (p : ResultPrecision) → precision_at (float_of p) ≡ p
unfolding precision_at
its_precision precision.Abstract = refl
its_precision _ = refl

pub one_fraction : (s r : ResultShape) (p q : ResultPrecision) → shaped s (scalar (float_of p)) ≡ shaped r (scalar (float_of q)) → (s ≡ r) × (p ≡ q)
one_fraction s r p q e = (
  sym (its_shape s (float_of p)) ∙ (ap (λ t. shape_at (components t)) e ∙ its_shape r (float_of q)),
  sym (its_precision p) ∙ (ap precision_at (sym (its_component s (float_of p)) ∙ (ap component e ∙ its_component r (float_of q))) ∙ its_precision q),
)
