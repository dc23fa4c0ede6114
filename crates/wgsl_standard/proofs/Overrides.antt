-- An override is a scalar, also once it is made concrete.
use Rattle.std.proofs.Common.{◌≡◌, Bool, true, false, Option, Some, None, cond, refl}
use Rattle.wgsl_standard.proofs.CommonForms.{ResultFunction, ResultShape, Layer, array_of, vec_of, mat_of, WgslType, scalar, within, struct, result_struct, scalar_of, abstract_result, concrete_of, has_abstract_type}
use Rattle.wgsl_standard.specs.forms.Declare.{is_override_type}

either_layer : (b : Bool) (l k : Layer) (t u : WgslType) → false ≡ is_override_type (cond b (within l t) (within k u))
either_layer true l k t u = refl
either_layer false l k t u = refl

pub no_override : (t : WgslType) → scalar_of t ≡ None → false ≡ is_override_type (concrete_of t)
unfolding result_struct
no_override (scalar s) e = absurd (cc e)
no_override (within (array_of n) t) e = refl
no_override (within (vec_of n) t) e = refl
no_override (within (mat_of c r) t) e = either_layer (has_abstract_type t) _ _ _ _
no_override (struct name ms) e = at (abstract_result (struct name ms)) refl
  where
    at : (r : Option (ResultFunction × ResultShape)) → abstract_result (struct name ms) ≡ r → false ≡ is_override_type (concrete_of (struct name ms))
    at (Some p) q = rw q refl
    at None q = rw q refl
no_override t e = refl
