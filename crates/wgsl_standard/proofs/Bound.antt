-- An operand with dimensions and components requires the same as its type.
use Rattle.std.proofs.Common.{◌≡◌, Bool, true, false, None, refl, Decides}
use Rattle.wgsl_standard.proofs.Common.{Scalar, Dimensions, Single, Pattern, texture, sampler, value_of, type_with, Binding, type_eq_decides, bind_if, bind_pattern, bind_value}
use Rattle.wgsl_syntax.specs.declared.overload.Pattern.TheVariants as patterns

unequal : (v : Bool) (P : Type 0) (b : Binding) → Decides v P → ¬ P → bind_if v b ≡ None
unequal true P b d n = absurd (n (d.0 refl))
unequal false P b d n = refl

pub value_bound : (c : Bool) (b : Binding) (p : Pattern) (d : Dimensions) (s : Scalar) → bind_pattern c b p (value_of (type_with d s)) ≡ bind_value c b p (d, s)
value_bound c b (patterns.Sampler x) Single s = unequal _ _ b (type_eq_decides (type_with Single s) (sampler x)) (λ e. absurd (cc e))
value_bound c b (patterns.Sampler x) d s = unequal _ _ b (type_eq_decides (type_with d s) (sampler x)) (λ e. absurd (cc e))
value_bound c b (patterns.Texture x) Single s = unequal _ _ b (type_eq_decides (type_with Single s) (texture x)) (λ e. absurd (cc e))
value_bound c b (patterns.Texture x) d s = unequal _ _ b (type_eq_decides (type_with d s) (texture x)) (λ e. absurd (cc e))
value_bound c b p Single s = refl
value_bound c b p d s = refl
