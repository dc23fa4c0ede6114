-- What constructors of matrices without a template make of value types is the result of the least candidate.
use Rattle.std.proofs.Common.{◌≡◌, ℕ, ◌⊎◌, List, [], ◌∷◌, length, Option, Some, None, Result, Ok, Err, All, ok_or, refl, sym, ap, subst, inl, inr}
use Rattle.wgsl_calls.proofs.Common.{mat_of, WgslType, within, mat, IsFloatScalar, inner_of, IsValueType, IsLeftCommon, of_one_type, folded, Refusal, builtin, Takes, Then, ThenCommon, above_values, value_above, receives_head, values_head, left_common_least, whole, fill_all, IsMatrixCandidate, matrix_copy, matrix_components, IsLeastMade}
use Rattle.wgsl_rules.specs.constructors.Matrices.{component_of, incompatible_matrix, IsUntypedMatrixOf, IsUntypedMatrixOfOne, IsUntypedMatrix}
use Rattle.wgsl_calls.proofs.ChosenAmong.{least_made, none_made, least_member, no_member, IsMember}
use Rattle.wgsl_calls.proofs.ChosenArrays.{wholes, whole_put, taken_received, taken_by_none}
use Rattle.wgsl_calls.proofs.ChosenVectors.{all_one}
use Rattle.wgsl_calls.proofs.MatrixColumns.{FitsColumns, one_type, columns_of, fits_before, matrix_apart, of_number, float_scalar, float_before, first_above, NoMatrix, no_matrix, several}

abbrev Untyped : ℕ → ℕ → List WgslType → WgslType → Type 0
Untyped c r = IsMatrixCandidate c r None

abbrev made_from : ℕ → ℕ → WgslType → WgslType
made_from c r u = mat c r (component_of (inner_of u))

-- a candidate that takes arguments takes one matrix, or has parameters of one type
record Columns (c r : ℕ) (ts us : List WgslType) (q : WgslType) : Type 0 where
  ty : WgslType
  parameters : us ≡ fill_all (wholes ts) ty
  fits : FitsColumns c r (length ts) ty
  float : IsFloatScalar (component_of (inner_of ty))
  result : q ≡ made_from c r ty

abbrev CandidateTaken : ℕ → ℕ → List WgslType → List WgslType → WgslType → Type 0
CandidateTaken c r ts us q = ((e : WgslType) × (us ≡ mat c r e ∷ []) × (q ≡ mat c r e)) ⊎ Columns c r ts us q

candidate_taken : (c r : ℕ) (ts us : List WgslType) (q : WgslType) → Untyped c r us q → Takes us ts → CandidateTaken c r ts us q
candidate_taken c r ts us q (matrix_copy e) k = inl (e, refl, refl)
candidate_taken c r ts us q (matrix_components t xs f m) k =
    let s = float_scalar t f in
    let o = one_type c r s.0 t ts xs s.1 m k in
    inr (record {
      ty = o.ty;
      parameters = o.parameters;
      fits = o.fits;
      float = subst (λ t. IsFloatScalar (component_of t)) (sym o.component) f;
      result = ap (λ t. mat c r (component_of t)) (sym o.component);
    })

-- One matrix

copied : (c r : ℕ) (e : WgslType) → IsValueType e → IsLeastMade (Untyped c r) (mat c r e ∷ []) (Ok (mat c r e))
copied c r e v =
    let vs = all_one IsValueType (mat c r e) v in
    least_made (Untyped c r) (mat c r e ∷ []) (mat c r e ∷ []) (mat c r e)
    (least_member (Untyped c r) (whole ∷ []) (λ u. u) (mat c r e ∷ []) (mat c r e ∷ []) (mat c r e) tt vs vs ([], refl, refl) (of_one_type (mat c r e))
    (λ us q h k. member us q k (candidate_taken c r (mat c r e ∷ []) us q h k)) (matrix_copy e))
  where
    member : (us : List WgslType) (q : WgslType) → Takes us (mat c r e ∷ []) → CandidateTaken c r (mat c r e ∷ []) us q → IsMember (whole ∷ []) (λ u. u) us q
    member us q k (inl h) = record { at = mat c r h.0; parameters = h.1; result = h.2 }
    member us q k (inr h) =
        let a = first_above h.ty (mat c r e) [] v (subst (λ us. Takes us (mat c r e ∷ [])) h.parameters k) in
        absurd (matrix_apart c r 1 c r e h.ty a h.fits)

other_shape : (c r d s : ℕ) (e : WgslType) (x : Refusal) → IsValueType e → (((d ≡ c) × (s ≡ r)) → ⊥) → IsLeastMade (Untyped c r) (mat d s e ∷ []) (Err x)
other_shape c r d s e x v f = none_made (Untyped c r) (mat d s e ∷ []) x (λ us q h k. against us q k (candidate_taken c r (mat d s e ∷ []) us q h k))
  where
    against : (us : List WgslType) (q : WgslType) → Takes us (mat d s e ∷ []) → CandidateTaken c r (mat d s e ∷ []) us q → ⊥
    against us q k (inl h) =
        let m = no_matrix c r (mat d s e) h.0 v (subst (λ us. Takes us (mat d s e ∷ [])) h.1 k) in
        let p : mat d s e ≡ mat c r m.0 = m.1 in
        f (cc p, cc p)
    against us q k (inr h) =
        let a = first_above h.ty (mat d s e) [] v (subst (λ us. Takes us (mat d s e ∷ [])) h.parameters k) in
        matrix_apart c r 1 d s e h.ty a h.fits

-- Arguments other than one matrix, by their common type

taken_columns : (c r : ℕ) (ts us : List WgslType) (q : WgslType) → NoMatrix c r ts → Takes us ts → CandidateTaken c r ts us q → Columns c r ts us q
taken_columns c r ts us q n k (inl h) = absurd (n h.0 (subst (λ us. Takes us ts) h.1 k))
taken_columns c r ts us q n k (inr h) = h

column_member : (c r : ℕ) (ts : List WgslType) → NoMatrix c r ts → (us : List WgslType) (q : WgslType) → Untyped c r us q → Takes us ts → IsMember (wholes ts) (made_from c r) us q
column_member c r ts n us q h k =
    let m = taken_columns c r ts us q n k (candidate_taken c r ts us q h k) in
    record { at = m.ty; parameters = m.parameters; result = m.result }

columns_at : (c r : ℕ) (a : WgslType) (ts : List WgslType) (u : WgslType) → All IsValueType (a ∷ ts) → NoMatrix c r (a ∷ ts) → IsLeftCommon (a ∷ ts) (Some u) →
    IsFloatScalar (component_of (inner_of u)) → FitsColumns c r (length (a ∷ ts)) u → IsLeastMade (Untyped c r) (a ∷ ts) (Ok (made_from c r u))
columns_at c r a ts u vs n h f m =
    let us = fill_all (wholes (a ∷ ts)) u in
    least_made (Untyped c r) (a ∷ ts) us (made_from c r u)
    (least_member (Untyped c r) (wholes (a ∷ ts)) (made_from c r) (a ∷ ts) (a ∷ ts) u tt vs vs (whole_put (a ∷ ts)) h (column_member c r (a ∷ ts) n)
    (matrix_components (inner_of u) us f (columns_of c r u a ts m)))

-- the common type fails where a candidate doesn't
no_columns_made : (c r : ℕ) (a : WgslType) (ts : List WgslType) (u : WgslType) (x : Refusal) → All IsValueType (a ∷ ts) → NoMatrix c r (a ∷ ts) → IsLeftCommon (a ∷ ts) (Some u) →
    (IsFloatScalar (component_of (inner_of u)) → FitsColumns c r (length (a ∷ ts)) u → ⊥) → IsLeastMade (Untyped c r) (a ∷ ts) (Err x)
no_columns_made c r a ts u x vs n h f = none_made (Untyped c r) (a ∷ ts) x (λ us q g k. against us q k (taken_columns c r (a ∷ ts) us q n k (candidate_taken c r (a ∷ ts) us q g k)))
  where
    against : (us : List WgslType) (q : WgslType) → Takes us (a ∷ ts) → Columns c r (a ∷ ts) us q → ⊥
    against us q k m =
        let g = left_common_least (a ∷ ts) u vs h in
        let va = values_head a ts vs in
        let vu = (above_values (value_above va (receives_head u a ts g.0))).0 va in
        let b = value_above vu (g.1 m.ty (taken_received m.ty (a ∷ ts) (subst (λ us. Takes us (a ∷ ts)) m.parameters k))) in
        let j = fits_before c r (length (a ∷ ts)) u m.ty b m.fits in
        f (float_before (inner_of u) (inner_of m.ty) j.1 m.float) j.0

by_common : (name : List ℕ) (c r : ℕ) (a : WgslType) (ts : List WgslType) (q : Result WgslType Refusal) → All IsValueType (a ∷ ts) → NoMatrix c r (a ∷ ts) →
    ThenCommon (a ∷ ts) incompatible_matrix (IsUntypedMatrixOf name c r (length (a ∷ ts))) q → IsLeastMade (Untyped c r) (a ∷ ts) q
by_common name c r a ts q vs n h = of_common h.0 h.1 h.2
  where
    made : (u : WgslType) → IsLeftCommon (a ∷ ts) (Some u) → IsUntypedMatrixOf name c r (length (a ∷ ts)) u q → IsLeastMade (Untyped c r) (a ∷ ts) q
    made u m (inr k) = subst (λ q. IsLeastMade (Untyped c r) (a ∷ ts) q) (sym k.1) (no_columns_made c r a ts u _ vs n m (λ f g. k.0 f))
    made u m (inl k) =
        elim (of_number name c r (length (a ∷ ts)) (component_of (inner_of u)) u q k.1) [
          | inl j ↦ subst (λ q. IsLeastMade (Untyped c r) (a ∷ ts) q) (sym j.1) (columns_at c r a ts u vs n m k.0 j.0)
          | inr j ↦ subst (λ q. IsLeastMade (Untyped c r) (a ∷ ts) q) (sym j.1.1) (no_columns_made c r a ts u j.1.0 vs n m (λ f g. j.0 g))
        ]

    of_common : (u : Option WgslType) → IsLeftCommon (a ∷ ts) u → Then (ok_or u (builtin incompatible_matrix)) (IsUntypedMatrixOf name c r (length (a ∷ ts))) q →
        IsLeastMade (Untyped c r) (a ∷ ts) q
    of_common (Some u) m k = made u m k
    of_common None m k =
        subst (λ q. IsLeastMade (Untyped c r) (a ∷ ts) q) (sym k)
        (none_made (Untyped c r) (a ∷ ts) _ (no_member (Untyped c r) (wholes (a ∷ ts)) (made_from c r) (a ∷ ts) (a ∷ ts) tt vs vs (whole_put (a ∷ ts)) m (column_member c r (a ∷ ts) n)))

no_argument : (c r : ℕ) (x : Refusal) → IsLeastMade (Untyped c r) [] (Err x)
no_argument c r x = none_made (Untyped c r) [] x (λ us q h k. against us q h k)
  where
    against : (us : List WgslType) (q : WgslType) → Untyped c r us q → Takes us [] → ⊥
    against us q (matrix_copy e) k = k.1
    against us q (matrix_components t xs f m) k = m.some (taken_by_none xs k)

of_one : (name : List ℕ) (c r : ℕ) (a : WgslType) (q : Result WgslType Refusal) → IsValueType a → IsUntypedMatrixOfOne name c r a q → IsLeastMade (Untyped c r) (a ∷ []) q
of_one name c r (within (mat_of d s) e) q v (inl k) =
    subst (λ q. IsLeastMade (Untyped c r) (mat d s e ∷ []) q) (sym k.1)
    (subst (λ d. IsLeastMade (Untyped c r) (mat d s e ∷ []) (Ok (mat d s e))) (sym k.0.0)
    (subst (λ s. IsLeastMade (Untyped c r) (mat c s e ∷ []) (Ok (mat c s e))) (sym k.0.1) (copied c r e v)))
of_one name c r (within (mat_of d s) e) q v (inr k) = subst (λ q. IsLeastMade (Untyped c r) (mat d s e ∷ []) q) (sym k.1) (other_shape c r d s e _ v k.0)
of_one name c r a q v h = by_common name c r a [] q (all_one IsValueType a v) (λ e k. let m = no_matrix c r a e v k in cc m.1) h

pub untyped_matrix : (name : List ℕ) (c r : ℕ) (ts : List WgslType) (q : Result WgslType Refusal) → All IsValueType ts → IsUntypedMatrix name c r ts q →
    IsLeastMade (IsMatrixCandidate c r None) ts q
untyped_matrix name c r [] q vs h = none h.0 ((folded [] h.0).0 h.1) h.2
  where
    none : (u : Option WgslType) → u ≡ None → Then (ok_or u (builtin incompatible_matrix)) (IsUntypedMatrixOf name c r 0) q → IsLeastMade (Untyped c r) [] q
    none None e k = subst (λ q. IsLeastMade (Untyped c r) [] q) (sym k) (no_argument c r _)
    none (Some u) e k = absurd (cc e)
untyped_matrix name c r (a ∷ []) q vs h = of_one name c r a q (values_head a [] vs) h
untyped_matrix name c r (a ∷ b ∷ ts) q vs h = by_common name c r a (b ∷ ts) q vs (λ e k. several c r a b e ts k) h
