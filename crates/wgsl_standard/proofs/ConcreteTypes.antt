-- A type that was made concrete has no abstract type in it.
use Rattle.std.proofs.Common.{◌≡◌, ℕ, List, Option, Some, None, Bool, true, false, cond, refl, sym, ap, ◌∙◌, arith}
use Rattle.wgsl_standard.proofs.CommonForms.{AbstractInt, AbstractFloat, F32, ResultFunction, ResultShape, array_of, vec_of, mat_of, WgslType, Members, scalar, within, struct, result_struct, MakesConcrete}
use Rattle.wgsl_syntax.specs.declared.result_struct.ResultPrecision.TheVariants as precision
use Rattle.wgsl_rules.proofs.conversion.Steps.{depth, depth-result_struct}
use Rattle.wgsl_standard.specs.forms.Concrete.{abstract_results, abstract_result, is_result, concrete_result, has_abstract_type, concrete_of}
use Rattle.wgsl_standard.proofs.AbstractResults.{among_is}

no_name : (f : ResultFunction) (s : ResultShape) (o : Option (ResultFunction × ResultShape)) → abstract_result (result_struct f s precision.F32) ≡ o → o ≡ None
unfolding abstract_result
no_name f s None e = refl
no_name f s (Some q) e =
    let same = among_is abstract_results (result_struct f s precision.F32) q e in
    let levels : 1 ≡ 0 = sym (depth-result_struct f s precision.F32) ∙ (ap depth same ∙ depth-result_struct q.0 q.1 precision.Abstract) in
    absurd (omega (arith, levels))

result_is_concrete : (f : ResultFunction) (s : ResultShape) → has_abstract_type (result_struct f s precision.F32) ≡ false
unfolding result_struct
result_is_concrete f s = ap is_result (no_name f s (abstract_result (result_struct f s precision.F32)) refl)

matrix_is_concrete : (c r : ℕ) (t : WgslType) (b : Bool) → has_abstract_type t ≡ b → has_abstract_type (cond b (within (mat_of c r) (scalar F32)) (within (mat_of c r) t)) ≡ false
matrix_is_concrete c r t true e = refl
matrix_is_concrete c r t false e = e

struct_is_concrete : (name : List ℕ) (ms : Members) (o : Option (ResultFunction × ResultShape)) → abstract_result (struct name ms) ≡ o → has_abstract_type (concrete_result (struct name ms) o) ≡ false
struct_is_concrete name ms None e = ap is_result e
struct_is_concrete name ms (Some r) e = result_is_concrete r.0 r.1

is_concrete : (t : WgslType) → has_abstract_type (concrete_of t) ≡ false
is_concrete (scalar AbstractInt) = refl
is_concrete (scalar AbstractFloat) = refl
is_concrete (scalar s) = refl
is_concrete (within (array_of n) t) = is_concrete t
is_concrete (within (vec_of n) t) = is_concrete t
is_concrete (within (mat_of c r) t) = matrix_is_concrete c r t (has_abstract_type t) refl
is_concrete (struct name ms) = struct_is_concrete name ms (abstract_result (struct name ms)) refl
is_concrete t = refl

matrix_stays : (m t : WgslType) (b : Bool) → b ≡ false → cond b m t ≡ t
matrix_stays m t true e = absurd (cc e)
matrix_stays m t false e = refl

struct_stays : (t : WgslType) (o : Option (ResultFunction × ResultShape)) → is_result o ≡ false → concrete_result t o ≡ t
struct_stays t None e = refl
struct_stays t (Some r) e = absurd (cc e)

stays : (t : WgslType) → has_abstract_type t ≡ false → concrete_of t ≡ t
stays (scalar AbstractInt) e = absurd (cc e)
stays (scalar AbstractFloat) e = absurd (cc e)
stays (scalar s) e = refl
stays (within (array_of n) t) e = ap (within (array_of n)) (stays t e)
stays (within (vec_of n) t) e = ap (within (vec_of n)) (stays t e)
stays (within (mat_of c r) t) e = matrix_stays (within (mat_of c r) (scalar F32)) (within (mat_of c r) t) (has_abstract_type t) e
stays (struct name ms) e = struct_stays (struct name ms) (abstract_result (struct name ms)) e
stays t e = refl

pub makes_concrete : (t : WgslType) → MakesConcrete t
makes_concrete t = (is_concrete t, stays t)
