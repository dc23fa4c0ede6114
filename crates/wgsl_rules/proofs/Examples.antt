-- Worked cases of the definitions.
use Rattle.std.proofs.Common.{◌≡◌, ℕ, List, [], ◌∷◌, Some, None, Result, Ok, Err, codes, refl, inl, inr, arith}
use Rattle.wgsl_rules.proofs.Common.{AbstractInt, AbstractFloat, I32, U32, F32, F16, AddressSpace, Private, AccessMode, Read, Write, ReadWrite, Frexp, plain_member, result_struct, Converts, ConvertsTo, load, load_inside, result_to_f32, base, IsConvertedInside, operator, IsLeastCandidate, concretized, Refusal, param_count, param_type}
use Rattle.wgsl_syntax.specs.declared.result_struct.ResultShape.TheVariants as shape
use Rattle.wgsl_syntax.specs.declared.result_struct.ResultPrecision.TheVariants as precision
use Rattle.wgsl_rules.specs.types.Types.{array_of, vec_of, WgslType, Members, scalar, atomic, pointer, reference, struct, no_members, vec, mat, array}
use Rattle.wgsl_syntax.specs.declared.operator.BinaryOperator.TheVariants.{Addition, ShiftLeft, Multiplication}
use Rattle.wgsl_rules.specs.operators.Rows.{scalar_row, scalar_vector_row, matrix_vector_row, shift_row}
use Rattle.wgsl_rules.specs.constructors.Constructors.{IsStructCall}
use Rattle.wgsl_rules.proofs.conversion.Order.{Above, here, further}
use Rattle.wgsl_rules.proofs.conversion.Equations.{converts_scalar, converts_inside, converts_within, converts_reference, converts_alone}
use Rattle.wgsl_rules.proofs.operators.ChosenRows.{row_chosen}

-- ranks
int_to_half : Converts (scalar AbstractInt) (scalar F16) 7
int_to_half = (converts_scalar AbstractInt F16 7).1 refl

signed_not_unsigned : (w : ℕ) → ¬ Converts (scalar I32) (scalar U32) w
signed_not_unsigned w h = let e : None ≡ Some w = (converts_scalar I32 U32 w).0 h in cc e

vectors_four : Converts (vec 3 (scalar AbstractInt)) (vec 3 (scalar U32)) 4
vectors_four = converts_inside (vec_of 3) (scalar AbstractInt) (scalar U32) 4 ((converts_scalar AbstractInt U32 4).1 refl)

arrays_six : Converts (array (Some 2) (vec 3 (scalar AbstractInt))) (array (Some 2) (vec 3 (scalar F32))) 6
arrays_six = converts_inside (array_of (Some 2)) (vec 3 (scalar AbstractInt)) (vec 3 (scalar F32)) 6
    (converts_inside (vec_of 3) (scalar AbstractInt) (scalar F32) 6 ((converts_scalar AbstractInt F32 6).1 refl))

counts_differ : (t u : WgslType) (w : ℕ) → ¬ Converts (array (Some 2) t) (array (Some 3) u) w
counts_differ t u w h =
    let e : array_of (Some 3) ≡ array_of (Some 2) = ((converts_within (array_of (Some 2)) (array_of (Some 3)) t u w).0 h).0 in
    let n : ◌≡◌ {A = ℕ} 3 2 = cc e in
    omega (arith, n)

loaded : Converts (reference Private (scalar I32) ReadWrite) (scalar I32) 0
loaded = inr (load Private (scalar I32) ReadWrite (inr refl), refl)

written : (w : ℕ) → ¬ Converts (reference Private (scalar I32) Write) (scalar I32) w
written w h = elim ((converts_reference Private (scalar I32) Write (scalar I32) w).0 h).1 [ inl e ↦ cc e | inr p ↦ elim p.0 [ inl q ↦ absurd (cc q) | inr q ↦ absurd (cc q) ] ]

load_no_step : (w : ℕ) → ¬ Converts (reference Private (scalar AbstractInt) Read) (scalar I32) w
load_no_step w h = elim ((converts_reference Private (scalar AbstractInt) Read (scalar I32) w).0 h).1 [
  | inl e ↦ cc e
  | inr p ↦ let e : scalar AbstractInt ≡ scalar I32 = p.1 in cc e
]

array_loaded : Converts (array (Some 2) (reference Private (scalar I32) Read)) (array (Some 2) (scalar I32)) 0
array_loaded = inr (load_inside (array_of (Some 2)) (load Private (scalar I32) Read (inl refl)), refl)

-- an atomic or a pointer converts only to itself
atomic_inside : (t u v : WgslType) → IsConvertedInside (atomic t) u (Some v) → atomic t ≡ u
atomic_inside t u v h = ((converts_alone (atomic t) u _ tt).0 h.0.1).1

pointer_inside : (s : AddressSpace) (t : WgslType) (m : AccessMode) (u v : WgslType) → IsConvertedInside (pointer s t m) u (Some v) → pointer s t m ≡ u
pointer_inside s t m u v h = ((converts_alone (pointer s t m) u _ tt).0 h.0.1).1

frexp_single : Converts (result_struct Frexp shape.Scalar precision.Abstract) (result_struct Frexp shape.Scalar precision.F32) 1
frexp_single = (above_converts_at (further here (base (result_to_f32 Frexp shape.Scalar))))
  where
    above_converts_at : Above (result_struct Frexp shape.Scalar precision.Abstract) (result_struct Frexp shape.Scalar precision.F32) → Converts (result_struct Frexp shape.Scalar precision.Abstract) (result_struct Frexp shape.Scalar precision.F32) 1
    above_converts_at a = inl (record {
      legs = record { from = result_struct Frexp shape.Scalar precision.Abstract; to = result_struct Frexp shape.Scalar precision.F32; weight = 1 } ∷ [];
      leads = (refl, base (result_to_f32 Frexp shape.Scalar), refl);
      weighs = refl;
    })

-- a result struct, written out
frexp_struct : result_struct Frexp shape.Vec2 precision.F16 ≡ struct (codes "__frexp_result_vec2_f16")
    (plain_member (codes "fract") (vec 2 (scalar F16)) (plain_member (codes "exp") (vec 2 (scalar I32)) no_members))
unfolding result_struct
frexp_struct = refl

-- overload resolution
int_plus_float : IsLeastCandidate (operator Addition) (scalar AbstractInt ∷ scalar AbstractFloat ∷ []) (scalar AbstractFloat ∷ scalar AbstractFloat ∷ []) (scalar AbstractFloat)
int_plus_float = row_chosen (scalar_row Addition tt AbstractInt AbstractFloat (scalar AbstractFloat) (inl ((5, (converts_scalar AbstractInt AbstractFloat 5).1 refl), refl))) tt tt

int_plus_vector : IsLeastCandidate (operator Addition) (scalar AbstractInt ∷ vec 3 (scalar F32) ∷ []) (scalar F32 ∷ vec 3 (scalar F32) ∷ []) (vec 3 (scalar F32))
int_plus_vector = row_chosen (scalar_vector_row Addition tt AbstractInt 3 (scalar F32) (scalar F32) (inl ((6, (converts_scalar AbstractInt F32 6).1 refl), refl))) tt tt

int_shift_int : IsLeastCandidate (operator ShiftLeft) (scalar AbstractInt ∷ scalar AbstractInt ∷ []) (scalar AbstractInt ∷ scalar U32 ∷ []) (scalar AbstractInt)
int_shift_int = row_chosen (shift_row ShiftLeft tt AbstractInt tt (scalar AbstractInt) (4, (converts_scalar AbstractInt U32 4).1 refl)) tt tt

matrix_vector_half : IsLeastCandidate (operator Multiplication) (mat 2 3 (scalar AbstractFloat) ∷ vec 2 (scalar F16) ∷ []) (mat 2 3 (scalar F16) ∷ vec 2 (scalar F16) ∷ []) (vec 3 (scalar F16))
matrix_vector_half = row_chosen (matrix_vector_row 2 3 (scalar AbstractFloat) (scalar F16) (scalar F16) (inl ((2, (converts_scalar AbstractFloat F16 2).1 refl), refl))) tt tt

-- concrete types
concrete_array : concretized (array (Some 2) (vec 3 (scalar AbstractInt))) ≡ array (Some 2) (vec 3 (scalar I32))
concrete_array = refl

concrete_matrix : concretized (mat 2 2 (scalar AbstractInt)) ≡ mat 2 2 (scalar F32)
concrete_matrix = refl

-- constructors of `struct S { a: i32, b: vec3<f32> }`
members : Members
members = plain_member (codes "a") (scalar I32) (plain_member (codes "b") (vec 3 (scalar F32)) no_members)

abbrev IsAnswerOfS : List WgslType → Result (Unit {0}) Refusal → Type 0
IsAnswerOfS args r = IsStructCall (codes "S") members args r

-- S()
struct_of_nothing : IsAnswerOfS [] (Ok tt)
struct_of_nothing = refl

-- S(AbstractInt, vec3<AbstractFloat>)
struct_of_members : IsAnswerOfS (scalar AbstractInt ∷ vec 3 (scalar AbstractFloat) ∷ []) (Ok tt)
unfolding members
struct_of_members = inl (refl, inl (((3, (converts_scalar AbstractInt I32 3).1 refl), ((1, vectors_one), tt)), refl))
  where
    vectors_one : Converts (vec 3 (scalar AbstractFloat)) (vec 3 (scalar F32)) 1
    vectors_one = converts_inside (vec_of 3) (scalar AbstractFloat) (scalar F32) 1 ((converts_scalar AbstractFloat F32 1).1 refl)

-- S(i32)
struct_of_too_few : IsAnswerOfS (scalar I32 ∷ []) (Err (param_count (codes "S") 2 1))
unfolding members
struct_of_too_few = inr ((λ e. absurd (cc e)), refl)

-- S(f32, vec3<f32>)
struct_of_another : IsAnswerOfS (scalar F32 ∷ vec 3 (scalar F32) ∷ []) (Err (param_type (scalar I32) (scalar F32)))
unfolding members
struct_of_another = inl (refl, inr (scalar I32, scalar F32, inl (float_not_int, refl, refl), refl))
  where
    float_not_int : ¬ ConvertsTo (scalar F32) (scalar I32)
    float_not_int p = let e : None ≡ Some p.0 = (converts_scalar F32 I32 p.0).0 p.1 in cc e
