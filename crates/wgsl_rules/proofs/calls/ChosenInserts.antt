-- `insertBits`: its row returns the least candidate's result.
use Rattle.std.proofs.Common.{◌≡◌, ◌⊎◌, List, [], ◌∷◌, inl, inr, All, refl, sym, subst}
use Rattle.wgsl_rules.proofs.Common.{Scalar, Bool, AbstractInt, AbstractFloat, I32, U32, F32, F16, I64, U64, F64, vec_of, WgslType, scalar, within, IsInteger, IsFloat, IsNumeric, IsFloatOrVector, IsValueType, insert_bits, Takes as TakenBy, Row, IsScalarOrVectorOf, Fits, IsReturnType, IsAnswerOf, RefusedThoughTaken, IsChosenCall}
use Rattle.wgsl_syntax.specs.declared.call.ScalarKind.TheVariants.{Integer}
use Rattle.wgsl_syntax.specs.declared.call.Shape.TheVariants.{Any, ScalarOrVectorOf, To}
use Rattle.wgsl_syntax.specs.declared.call.Source.TheVariants.{Common}
use Rattle.wgsl_syntax.specs.declared.call.ReturnType.TheVariants.{Concrete}
use Rattle.wgsl_syntax.specs.declared.call.Arguments.TheVariants.{Four}
use Rattle.wgsl_syntax.specs.declared.call.Row.TheVariants.{Takes}
use Rattle.wgsl_rules.proofs.conversion.Commons.{values_head, values_tail}
use Rattle.wgsl_rules.proofs.operators.FamilyKinds.{a_number, or_vector, Admits, above_admits, above_admitted}
use Rattle.wgsl_rules.proofs.operators.Forms.{insert_form}
use Rattle.wgsl_rules.proofs.calls.Answered.{returned_common, one_row, head_taken, none_taken, Answer, its, Returned}
use Rattle.wgsl_rules.proofs.calls.ShapedKinds.{dec_refused}

-- `insertBits`

abbrev pub insert_row : Row
insert_row = Takes (Four (ScalarOrVectorOf Integer) Any (To U32) (To U32)) (Concrete Common)

integer_number : (s : Scalar) → IsInteger s → IsNumeric s
integer_number Bool h = absurd h
integer_number s h = tt

integer_shape : (t : WgslType) → IsScalarOrVectorOf Integer t → Admits (or_vector a_number) t
integer_shape (scalar s) h = integer_number s h
integer_shape (within (vec_of n) (scalar s)) h = integer_number s h
integer_shape _ h = absurd h

integer_or_float : (s : Scalar) → IsNumeric s → IsInteger s ⊎ IsFloat s
integer_or_float Bool h = absurd h
integer_or_float AbstractInt h = inl tt
integer_or_float I32 h = inl tt
integer_or_float U32 h = inl tt
integer_or_float I64 h = inl tt
integer_or_float U64 h = inl tt
integer_or_float s h = inr tt

number_shape_of : (t : WgslType) → Admits (or_vector a_number) t → IsScalarOrVectorOf Integer t ⊎ IsFloatOrVector t
number_shape_of (scalar s) h = integer_or_float s h
number_shape_of (within (vec_of n) (scalar s)) h = integer_or_float s h
number_shape_of _ h = absurd h

no_integer_float : (s : Scalar) → IsFloat s → ¬ IsInteger s
no_integer_float AbstractFloat h k = k
no_integer_float F32 h k = k
no_integer_float F16 h k = k
no_integer_float F64 h k = k
no_integer_float s h k = h

float_no_integer : (t : WgslType) → IsFloatOrVector t → ¬ IsScalarOrVectorOf Integer t
float_no_integer (scalar s) h k = no_integer_float s h k
float_no_integer (within (vec_of n) (scalar s)) h k = no_integer_float s h k
float_no_integer t h k = h

pub insert_answer : (ts : List WgslType) → All IsValueType ts → (a : Answer) → IsAnswerOf (insert_row ∷ []) (its insert_bits ts) a → IsChosenCall insert_bits (its insert_bits ts) a
insert_answer ts v a h = one_row insert_bits ts insert_form insert_row a v refl (dec_refused insert_bits ts) (unfit ts) (got ts v) down h
  where
    unfit : (ts : List WgslType) → RefusedThoughTaken insert_bits ts → ¬ Fits insert_row (its insert_bits ts)
    unfit [] x f = f.1
    unfit (b ∷ ts) x f = float_no_integer b x f.1.0

    got : (ts : List WgslType) → All IsValueType ts → Fits insert_row (its insert_bits ts) → IsReturnType (Concrete Common) (its insert_bits ts) a → Returned insert_bits ts insert_form a
    got [] v f o = absurd f.1
    got (x ∷ []) v f o = absurd f.1.1
    got (x ∷ y ∷ []) v f o = absurd f.1.1.1
    got (x ∷ y ∷ z ∷ []) v f o = absurd f.1.1.1.1
    got (x ∷ y ∷ z ∷ w ∷ []) v f o =
        let vx = values_head x (y ∷ z ∷ w ∷ []) v in
        let vy = values_head y (z ∷ w ∷ []) (values_tail x (y ∷ z ∷ w ∷ []) v) in
        returned_common insert_bits (x ∷ y ∷ z ∷ w ∷ []) insert_form a x y o.0 vx vy (y ∷ [], refl, ([], refl, (f.1.1.1.0, (f.1.1.1.1.0, refl)))) o.1
        (λ d h. above_admitted h (or_vector a_number) tt (integer_shape x f.1.0)) o.2
    got (x ∷ y ∷ z ∷ w ∷ u ∷ ts) v f o = absurd f.1.1.1.1.1

    down : (c : WgslType) → Admits (or_vector a_number) c → TakenBy (c ∷ c ∷ scalar U32 ∷ scalar U32 ∷ []) ts → Fits insert_row (its insert_bits ts) ⊎ RefusedThoughTaken insert_bits ts
    down c i t =
        let x = head_taken ts c (c ∷ scalar U32 ∷ scalar U32 ∷ []) t.0 v t.1 in
        let y = head_taken x.rest c (scalar U32 ∷ scalar U32 ∷ []) x.taken.0 x.values x.taken.1 in
        let z = head_taken y.rest (scalar U32) (scalar U32 ∷ []) y.taken.0 y.values y.taken.1 in
        let w = head_taken z.rest (scalar U32) [] z.taken.0 z.values z.taken.1 in
        let e = none_taken w.rest w.taken.0 w.taken.1 in
        let is : ts ≡ x.a ∷ y.a ∷ z.a ∷ w.a ∷ [] = cc (x.is, y.is, z.is, w.is, e) in
        subst (λ ts. Fits insert_row (its insert_bits ts) ⊎ RefusedThoughTaken insert_bits ts) (sym is)
        (elim (number_shape_of x.a (above_admits x.above (or_vector a_number) tt i)) [ inl k ↦ inl (refl, (k, (tt, (z.converts, (w.converts, tt))))) | inr k ↦ inr k ])
