-- The arguments of a matrix: one scalar per component or one vector per column, or one matrix.
use Rattle.std.proofs.Common.{◌≡◌, ℕ, ◌*◌, ◌⊎◌, List, [], ◌∷◌, length, Result, Ok, Err, refl, sym, ◌∙◌, ap, subst, inl, inr}
use Rattle.wgsl_calls.proofs.Common.{Scalar, AbstractInt, vec_of, mat_of, WgslType, scalar, within, vec, mat, IsFloatScalar, inner_of, IsValueType, Refusal, Takes, component_of, IsMatrixOf, Above, above_to_within, above_from_within, value_converts, value_above, receives_head, fill_all, AreAll, MakeColumns}
use Rattle.wgsl_rules.proofs.operators.FamilyKinds.{a_float, any_scalar, Admits, above_admits, above_admitted, outer, float_above, int_above, as_scalar}
use Rattle.wgsl_calls.proofs.ChosenArrays.{wholes, taken_all, filled_all, filled_length, taken_received}

-- The number of arguments of type u that make c columns of r components: one per component, or one per column.
abbrev pub FitsColumns : ℕ → ℕ → ℕ → WgslType → Type 0
FitsColumns c r n (scalar s) = n ≡ c * r
FitsColumns c r n (within (vec_of m) e) = n ≡ c
FitsColumns c r n u = ⊥

-- parameters that make columns are all of one type
pub record OfOneType (c r : ℕ) (t : WgslType) (ts us : List WgslType) : Type 0 where
  pub ty : WgslType
  pub parameters : us ≡ fill_all (wholes ts) ty
  pub fits : FitsColumns c r (length ts) ty
  pub component : inner_of ty ≡ t

pub one_type : (c r : ℕ) (s : Scalar) (t : WgslType) (ts us : List WgslType) → t ≡ scalar s → MakeColumns c r t us → Takes us ts → OfOneType c r t ts us
one_type c r s t ts us p m k = by_number m.number
  where
    counted : (u : WgslType) (n : ℕ) → us ≡ fill_all (wholes ts) u → length us ≡ n → length ts ≡ n
    counted u n e q = sym (filled_length u ts) ∙ ap length (sym e) ∙ q

    by_number : (AreAll t us × (length us ≡ c * r)) ⊎ ((m : ℕ) × AreAll (vec m t) us × (length us ≡ c)) → OfOneType c r t ts us
    by_number (inl h) =
        let e = taken_all t ts us h.0 k in
        record {
          ty = t;
          parameters = e;
          fits = subst (λ u. FitsColumns c r (length ts) u) (sym p) (counted t (c * r) e h.1);
          component = subst (λ u. inner_of u ≡ u) (sym p) refl;
        }
    by_number (inr h) =
        let e = taken_all (vec h.0 t) ts us h.1 k in
        record { ty = vec h.0 t; parameters = e; fits = counted (vec h.0 t) c e h.2; component = refl }

-- and the other way round
pub columns_of : (c r : ℕ) (u a : WgslType) (ts : List WgslType) → FitsColumns c r (length (a ∷ ts)) u → MakeColumns c r (inner_of u) (fill_all (wholes (a ∷ ts)) u)
columns_of c r (scalar s) a ts h = record { some = λ p. cc p; number = inl (filled_all (scalar s) (a ∷ ts), filled_length (scalar s) (a ∷ ts) ∙ h) }
columns_of c r (within (vec_of m) e) a ts h = record { some = λ p. cc p; number = inr (m, filled_all (vec m e) (a ∷ ts), filled_length (vec m e) (a ∷ ts) ∙ h) }
columns_of c r u a ts h = absurd h

-- conversion keeps this, and converts the components
pub fits_before : (c r n : ℕ) (t u : WgslType) → Above t u → FitsColumns c r n u → FitsColumns c r n t × Above (inner_of t) (inner_of u)
fits_before c r n t (scalar s) a h =
    let k = as_scalar t (above_admits a any_scalar tt tt) in
    (subst (λ t. FitsColumns c r n t) (sym k.1) h, subst (λ t. Above (inner_of t) (scalar s)) (sym k.1) (subst (λ t. Above t (scalar s)) k.1 a))
fits_before c r n t (within (vec_of m) e) a h =
    let k = above_to_within a (vec_of m) e refl in
    (subst (λ t. FitsColumns c r n t) (sym k.1) h, subst (λ t. Above (inner_of t) e) (sym k.1) k.2)
fits_before c r n t u a h = absurd h

pub fits_after : (c r n : ℕ) (t u : WgslType) → Above t u → FitsColumns c r n t → FitsColumns c r n u
fits_after c r n (scalar s) u a h =
    let k = as_scalar u (above_admitted a any_scalar tt tt) in
    subst (λ u. FitsColumns c r n u) (sym k.1) h
fits_after c r n (within (vec_of m) e) u a h =
    let k = above_from_within a (vec_of m) e refl in
    subst (λ u. FitsColumns c r n u) (sym k.1) h
fits_after c r n t u a h = absurd h

-- types with the same outer layer and the same components
pub same_fit : (c r n : ℕ) (t u : WgslType) → FitsColumns c r n t → FitsColumns c r n u → outer t ≡ outer u → inner_of t ≡ inner_of u → t ≡ u
same_fit c r n (scalar s) (scalar x) h k e i = i
same_fit c r n (scalar s) (within (vec_of m) e') h k e i = absurd (cc e)
same_fit c r n (within (vec_of m) e') (scalar s) h k e i = absurd (cc e)
same_fit c r n (within (vec_of m) x) (within (vec_of p) y) h k e i = let q : vec_of m ≡ vec_of p = cc e in cc (q, i)
same_fit c r n (scalar s) u h k e i = absurd k
same_fit c r n (within (vec_of m) x) u h k e i = absurd k
same_fit c r n t u h k e i = absurd h

-- a matrix doesn't convert to what makes columns
pub matrix_apart : (c r n d s : ℕ) (e u : WgslType) → Above (mat d s e) u → FitsColumns c r n u → ⊥
matrix_apart c r n d s e u a h = (fits_before c r n (mat d s e) u a h).0

-- what a matrix is made of, or why not
pub of_number : (name : List ℕ) (c r n : ℕ) (t u : WgslType) (q : Result WgslType Refusal) → IsMatrixOf name c r n t u q →
    (FitsColumns c r n u × (q ≡ Ok (mat c r t))) ⊎ ((¬ FitsColumns c r n u) × ((e : Refusal) × (q ≡ Err e)))
of_number name c r n t (within (vec_of m) e) q (inl h) = inl (sym h.0, h.1)
of_number name c r n t (within (vec_of m) e) q (inr h) = inr (λ k. h.0 (sym k), (_, h.1))
of_number name c r n t (scalar s) q (inl h) = inl (sym h.0, h.1)
of_number name c r n t (scalar s) q (inr h) = inr (λ k. h.0 (sym k), (_, h.1))
of_number name c r n t u q h = inr (λ k. k, (_, h))

-- Floats, and abstract integers, which become floats

pub float_scalar : (t : WgslType) → IsFloatScalar (component_of t) → (s : Scalar) × (t ≡ scalar s)
float_scalar (scalar s) h = (s, refl)
float_scalar t h = absurd h

float_or_int : (t : WgslType) → IsFloatScalar (component_of t) → (t ≡ scalar AbstractInt) ⊎ Admits a_float t
float_or_int (scalar AbstractInt) h = inl refl
float_or_int t h = inr h

becomes_float : (t : WgslType) → Admits a_float t → IsFloatScalar (component_of t)
becomes_float (scalar AbstractInt) h = tt
becomes_float t h = h

-- a type that converts to one of these is one
pub float_before : (t u : WgslType) → Above t u → IsFloatScalar (component_of u) → IsFloatScalar (component_of t)
float_before t u a h =
    elim (float_or_int u h) [
      | inl e ↦ subst (λ t. IsFloatScalar (component_of t)) (sym (int_above a e)) tt
      | inr k ↦ elim (float_above a k) [
        | inl m ↦ becomes_float t m
        | inr m ↦ subst (λ t. IsFloatScalar (component_of t)) (sym m.0) tt
      ]
    ]

-- What the arguments convert to

-- the type of parameters that are all the same
pub first_above : (u a : WgslType) (ts : List WgslType) → IsValueType a → Takes (fill_all (wholes (a ∷ ts)) u) (a ∷ ts) → Above a u
first_above u a ts v k = value_above v (receives_head u a ts (taken_received u (a ∷ ts) k))

abbrev pub NoMatrix : ℕ → ℕ → List WgslType → Type 0
NoMatrix c r ts = (e : WgslType) → Takes (mat c r e ∷ []) ts → ⊥

-- only a matrix converts to one
pub no_matrix : (c r : ℕ) (a e : WgslType) → IsValueType a → Takes (mat c r e ∷ []) (a ∷ []) → (t : WgslType) × (a ≡ mat c r t)
no_matrix c r a e v ([], k) = absurd k
no_matrix c r a e v (w ∷ ws, k) = let m = above_to_within (value_converts v k.0).0 (mat_of c r) e refl in (m.0, m.1)

pub several : (c r : ℕ) (a b e : WgslType) (ts : List WgslType) → Takes (mat c r e ∷ []) (a ∷ b ∷ ts) → ⊥
several c r a b e ts ([], k) = k
several c r a b e ts (w ∷ [], k) = k.1
several c r a b e ts (w ∷ x ∷ ws, k) = k.1
