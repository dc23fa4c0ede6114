-- A type without elements has none when it is made concrete, and one that isn't abstract stays.
use Rattle.std.proofs.Common.{◌≡◌, Option, Some, None, Bool, true, false, not, ◌||◌, cond, refl, sym}
use Rattle.wgsl_standard.proofs.CommonForms.{Scalar, AbstractInt, AbstractFloat, ResultFunction, ResultShape, array_of, vec_of, mat_of, WgslType, scalar, within, struct, pointer, reference, result_struct, concrete_of, concrete_result, abstract_result, has_abstract_type, behind, is_memory}
use Rattle.wgsl_standard.specs.forms.Index.{element_of}
use Rattle.wgsl_standard.proofs.ConcreteTypes.{makes_concrete}

none_in_result : (t : WgslType) (r : Option (ResultFunction × ResultShape)) → element_of t ≡ None → element_of (concrete_result t r) ≡ None
unfolding result_struct
none_in_result t None e = e
none_in_result t (Some r) e = refl

none_in_scalar : (s : Scalar) → element_of (concrete_of (scalar s)) ≡ None
none_in_scalar AbstractInt = refl
none_in_scalar AbstractFloat = refl
none_in_scalar s = refl

none_in_concrete : (t : WgslType) → element_of t ≡ None → element_of (concrete_of t) ≡ None
none_in_concrete (scalar s) e = none_in_scalar s
none_in_concrete (within (array_of n) t) e = absurd (cc e)
none_in_concrete (within (vec_of n) t) e = absurd (cc e)
none_in_concrete (within (mat_of c r) t) e = absurd (cc e)
none_in_concrete (struct name ms) e = none_in_result (struct name ms) (abstract_result (struct name ms)) refl
none_in_concrete t e = e

pub none_stays : (stays : Bool) (t : WgslType) → element_of t ≡ None → element_of (cond stays t (concrete_of t)) ≡ None
none_stays true t e = e
none_stays false t e = none_in_concrete t e

stays_value : (t u : WgslType) (a c : Bool) → (a ≡ false → u ≡ t) → cond (not a || c) t u ≡ cond c t u
stays_value t u true c h = refl
stays_value t u false true h = refl
stays_value t u false false h = sym (h refl)

-- types in memory have no abstract type in them, and a type without one stays the same when it is made concrete
pub stays_abstract : (t : WgslType) (c : Bool) → cond (not (has_abstract_type t) || c) (behind t) (concrete_of (behind t)) ≡ cond (is_memory t || c) (behind t) (concrete_of (behind t))
stays_abstract (reference s t a) c = refl
stays_abstract (pointer s t a) c = refl
stays_abstract t c = stays_value t (concrete_of t) (has_abstract_type t) c (makes_concrete t).1
