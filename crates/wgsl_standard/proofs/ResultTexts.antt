-- The texts of result structs.
use Rattle.std.proofs.Common.{◌≡◌, ℕ, List, Some, refl, sym, ap, ◌∙◌}
use Rattle.wgsl_standard.proofs.CommonForms.{result_name, ResultFunction, Frexp, ResultShape, Members, struct, result_struct, wgsl_spelling, concrete_of, concrete_result, abstract_result, in_f32}
use Rattle.wgsl_syntax.specs.declared.result_struct.ResultShape.TheVariants as shape
use Rattle.wgsl_syntax.specs.declared.result_struct.ResultPrecision.TheVariants as precision

by_cases : (f : ResultFunction) (s : ResultShape) → result_name (in_f32 (f, s)) ≡ wgsl_spelling (result_struct f s precision.F32)
unfolding result_struct
by_cases Frexp shape.Scalar = refl
by_cases f shape.Scalar = refl
by_cases f s = refl

-- the text of the concrete struct for the result struct of an abstract float
pub concrete_text : (name : List ℕ) (ms : Members) (r : ResultFunction × ResultShape) → abstract_result (struct name ms) ≡ Some r → result_name (in_f32 r) ≡ wgsl_spelling (concrete_of (struct name ms))
concrete_text name ms r e = by_cases r.0 r.1 ∙ ap (λ o. wgsl_spelling (concrete_result (struct name ms) o)) (sym e)
