-- What constructors of vectors make of value types is the result of the least candidate.
use Rattle.std.proofs.Common.{◌≡◌, ◌≢◌, ℕ, ◌⊎◌, List, [], ◌∷◌, Option, Some, None, Result, Ok, Err, All, codes, map, ok_or, refl, sym, ◌∙◌, ap, subst, inl, inr, arith}
use Rattle.wgsl_calls.proofs.Common.{All-nil, All-cons, All-head, All-tail, Scalar, AbstractInt, vec_of, WgslType, scalar, within, vec, IsScalarOrVector, inner_of, IsValueType, ConvertsTo, IsLeftCommon, of_one_type, Refusal, builtin, Receives, HasRanks, Takes, Then, Above, value_converts, Slot, whole, inner, fill, fill_all, IsPut, HasOpen}
use Rattle.wgsl_rules.specs.constructors.Vectors.{components, all_components, no_components as no_components_refusal, IsUntypedVectorOfOne, IsUntypedVectorOfSeveral, IsUntypedVector}
use Rattle.wgsl_rules.proofs.conversion.Commons.{value_above, receives_head, receives_tail, values_head, values_tail, left_common_least}
use Rattle.wgsl_rules.proofs.operators.FamilyKinds.{any_scalar, scalar_or_vector, above_admits, above_admitted, Outer, plain, layer, outer, outers, above_outer, ranked_outers, as_scalar}
use Rattle.wgsl_calls.specs.Constructors.{HasComponents, MakeComponents, IsVectorCandidate, vector_zero, vector_components, IsLeastMade}
use Rattle.wgsl_calls.proofs.ChosenAmong.{least_made, none_made, IsMember, least_member, no_member, only_one}

-- The slots of scalars and vectors: a scalar's is whole, a vector's has its length.

abbrev pub slot_of : Outer → Slot
slot_of plain = whole
slot_of (layer l) = inner l

abbrev pub slots_of : List Outer → List Slot
slots_of [] = []
slots_of (o ∷ os) = slot_of o ∷ slots_of os

abbrev pub shapes : List WgslType → List Slot
shapes ts = slots_of (outers ts)

pub open_shapes : (t : WgslType) (ts : List WgslType) → HasOpen (shapes (t ∷ ts))
open_shapes t ts = of_outer (outer t)
  where
    of_outer : (o : Outer) → HasOpen (slot_of o ∷ shapes ts)
    of_outer plain = tt
    of_outer (layer l) = tt

filled_shape : (t u : WgslType) → HasComponents t u → u ≡ fill (slot_of (outer u)) t
filled_shape t (scalar s) h = sym h
filled_shape t (within (vec_of m) e) h = ap (λ e. vec m e) (sym h)
filled_shape t u h = absurd h

-- types with components of t fill their own slots at t
pub filled_shapes : (t : WgslType) (us : List WgslType) → All (HasComponents t) us → us ≡ fill_all (shapes us) t
filled_shapes t [] h = refl
filled_shapes t (u ∷ us) h =
    let e = filled_shape t u (All-head (HasComponents t) u us h) in
    let k = filled_shapes t us (All-tail (HasComponents t) u us h) in
    cc (e, k)

has_scalar_or_vector : (t u : WgslType) → HasComponents t u → IsScalarOrVector u
has_scalar_or_vector t (scalar s) h = tt
has_scalar_or_vector t (within (vec_of m) e) h = tt
has_scalar_or_vector t u h = absurd h

-- a type that converts to a scalar or a vector is one, with as many components
pub converted_shape : (t u : WgslType) → Above t u → IsScalarOrVector u → IsScalarOrVector t × (components t ≡ components u)
converted_shape t u a h =
    let k = above_admits a scalar_or_vector tt h in
    (k, sym (by_outer t k) ∙ ap count_of (above_outer a) ∙ by_outer u h)
  where
    count_of : Outer → ℕ
    count_of plain = 1
    count_of (layer (vec_of m)) = m
    count_of (layer l) = 0

    by_outer : (t : WgslType) → IsScalarOrVector t → count_of (outer t) ≡ components t
    by_outer (scalar s) h = refl
    by_outer (within (vec_of m) e) h = refl
    by_outer t h = absurd h

-- Arguments that are taken by scalars and vectors of t are such, with as many components in total.
pub record AreTaken (t : WgslType) (ts us : List WgslType) : Type 0 where
  pub shaped : All IsScalarOrVector ts
  pub number : all_components ts ≡ all_components us
  pub filled : us ≡ fill_all (shapes ts) t

pub are_taken : (t : WgslType) (ts us : List WgslType) → All IsValueType ts → All (HasComponents t) us → Takes us ts → AreTaken t ts us
are_taken t ts us vs h k = record {
  shaped = (each ts us k.0 vs h k.1).0;
  number = (each ts us k.0 vs h k.1).1;
  filled = filled_shapes t us h ∙ ap (λ os. fill_all (slots_of os) t) (sym (ranked_outers ts us k.0 vs k.1));
}
  where
    each : (ts us : List WgslType) (ws : List ℕ) → All IsValueType ts → All (HasComponents t) us → HasRanks ts us ws → All IsScalarOrVector ts × (all_components ts ≡ all_components us)
    each [] [] ws vs h k = (All-nil IsScalarOrVector, refl)
    each [] (u ∷ us) ws vs h k = absurd k
    each (t' ∷ ts) [] ws vs h k = absurd k
    each (t' ∷ ts) (u ∷ us) [] vs h k = absurd k
    each (t' ∷ ts) (u ∷ us) (w ∷ ws) vs h k =
        let a = (value_converts (values_head t' ts vs) k.0).0 in
        let c = converted_shape t' u a (has_scalar_or_vector t u (All-head (HasComponents t) u us h)) in
        let m = each ts us ws (values_tail t' ts vs) (All-tail (HasComponents t) u us h) k.1 in
        (All-cons IsScalarOrVector t' ts c.0 m.0, omega (arith, c.1, m.1))

-- Without a template

-- scalars and vectors put the types of their components
pub shaped_put : (ts : List WgslType) → All IsScalarOrVector ts → IsPut (shapes ts) ts (map inner_of ts)
shaped_put [] h = refl
shaped_put (t ∷ ts) h = of_first t (All-head IsScalarOrVector t ts h) (shaped_put ts (All-tail IsScalarOrVector t ts h))
  where
    of_first : (t : WgslType) → IsScalarOrVector t → IsPut (shapes ts) ts (map inner_of ts) → IsPut (shapes (t ∷ ts)) (t ∷ ts) (map inner_of (t ∷ ts))
    of_first (scalar s) h k = (map inner_of ts, refl, k)
    of_first (within (vec_of m) e) h k = (e, map inner_of ts, refl, refl, k)
    of_first t h k = absurd h

inner_value : (t : WgslType) → IsScalarOrVector t → IsValueType t → IsValueType (inner_of t)
inner_value (scalar s) h v = v
inner_value (within (vec_of m) e) h v = v
inner_value t h v = absurd h

pub inner_values : (ts : List WgslType) → All IsScalarOrVector ts → All IsValueType ts → All IsValueType (map inner_of ts)
inner_values [] h vs = All-nil IsValueType
inner_values (t ∷ ts) h vs =
    All-cons IsValueType (inner_of t) (map inner_of ts)
    (inner_value t (All-head IsScalarOrVector t ts h) (values_head t ts vs))
    (inner_values ts (All-tail IsScalarOrVector t ts h) (values_tail t ts vs))

scalar_received : (s : Scalar) (c : WgslType) → ConvertsTo (scalar s) c → (r : Scalar) × (c ≡ scalar r)
scalar_received s c h = as_scalar c (above_admitted (value_above tt h) any_scalar tt tt)

shaped_has : (c t : WgslType) → IsScalarOrVector t → ConvertsTo (inner_of t) c → HasComponents c (fill (slot_of (outer t)) c)
shaped_has c (scalar s) h g = let k = scalar_received s c g in subst (λ u. HasComponents c u) (sym k.1) k.1
shaped_has c (within (vec_of m) e) h g = refl
shaped_has c t h g = absurd h

shaped_components : (c t : WgslType) → IsScalarOrVector t → ConvertsTo (inner_of t) c → components (fill (slot_of (outer t)) c) ≡ components t
shaped_components c (scalar s) h g = let k = scalar_received s c g in ap components k.1
shaped_components c (within (vec_of m) e) h g = refl
shaped_components c t h g = absurd h

-- the parameters for arguments with components that convert to c
filled_of_type : (c : WgslType) (ts : List WgslType) → All IsScalarOrVector ts → Receives c (map inner_of ts) →
    All (HasComponents c) (fill_all (shapes ts) c) × (all_components (fill_all (shapes ts) c) ≡ all_components ts)
filled_of_type c [] h g = (All-nil (HasComponents c), refl)
filled_of_type c (t ∷ ts) h g =
    let v = All-head IsScalarOrVector t ts h in
    let r = receives_head c (inner_of t) (map inner_of ts) g in
    let k = filled_of_type c ts (All-tail IsScalarOrVector t ts h) (receives_tail c (inner_of t) (map inner_of ts) g) in (
      All-cons (HasComponents c) (fill (slot_of (outer t)) c) (fill_all (shapes ts) c) (shaped_has c t v r) k.0,
      omega (arith, shaped_components c t v r, k.1),
    )

-- n components in total, or one scalar
abbrev pub IsEnough : ℕ → List WgslType → Type 0
IsEnough n ts = (all_components ts ≡ n) ⊎ ((s : Scalar) × (ts ≡ scalar s ∷ []))

enough_filled : (n : ℕ) (c : WgslType) (ts : List WgslType) → Receives c (map inner_of ts) → all_components (fill_all (shapes ts) c) ≡ all_components ts →
    IsEnough n ts → IsEnough n (fill_all (shapes ts) c)
enough_filled n c ts g e (inl k) = inl (e ∙ k)
enough_filled n c ts g e (inr k) =
    let r = scalar_received k.0 c (receives_head c (scalar k.0) [] (subst (λ ts. Receives c (map inner_of ts)) k.1 g)) in
    inr (r.0, ap (λ ts. fill_all (shapes ts) c) k.1 ∙ ap (λ c. c ∷ []) r.1)

some_filled : (c t : WgslType) (ts : List WgslType) → fill_all (shapes (t ∷ ts)) c ≢ []
some_filled c t ts e = cc e

pub filled_makes : (n : ℕ) (c t : WgslType) (ts : List WgslType) → All IsScalarOrVector (t ∷ ts) → IsEnough n (t ∷ ts) → Receives c (map inner_of (t ∷ ts)) →
    MakeComponents n c (fill_all (shapes (t ∷ ts)) c)
filled_makes n c t ts h k g =
    let m = filled_of_type c (t ∷ ts) h g in
    record { some = some_filled c t ts; of_type = m.0; number = enough_filled n c (t ∷ ts) g m.1 k }

-- and the other way round: arguments of which the parameters make n components
pub enough_taken : (n : ℕ) (t : WgslType) (ts us : List WgslType) → All IsValueType ts → AreTaken t ts us → Takes us ts → IsEnough n us → IsEnough n ts
enough_taken n t ts us vs a k (inl e) = inl (a.number ∙ e)
enough_taken n t ts us vs a k (inr e) = one_taken ts (outer_one ts k.0 vs (subst (λ us. HasRanks ts us k.0) e.1 k.1)) a.shaped
  where
    outer_one : (ts : List WgslType) (ws : List ℕ) → All IsValueType ts → HasRanks ts (scalar e.0 ∷ []) ws → outers ts ≡ plain ∷ []
    outer_one ts ws vs h = ranked_outers ts (scalar e.0 ∷ []) ws vs h

    one_taken : (ts : List WgslType) → outers ts ≡ plain ∷ [] → All IsScalarOrVector ts → IsEnough n ts
    one_taken [] p h = absurd (cc p)
    one_taken (t ∷ u ∷ ts) p h = absurd (cc p)
    one_taken (t ∷ []) p h = of_plain t (cc p) (All-head IsScalarOrVector t [] h)
      where
        of_plain : (t : WgslType) → outer t ≡ plain → IsScalarOrVector t → IsEnough n (t ∷ [])
        of_plain (scalar s) p h = inr (s, refl)
        of_plain (within l e) p h = absurd (cc p)
        of_plain t p h = absurd h

pub taken_none : (t : WgslType) (ts : List WgslType) → Takes [] (t ∷ ts) → ⊥
taken_none t ts k = k.1

-- what a candidate that takes arguments says of them
abbrev VectorTaken : ℕ → List WgslType → List WgslType → WgslType → Type 0
VectorTaken n ts us r = IsMember (shapes ts) (λ c. vec n c) us r × All IsScalarOrVector ts × IsEnough n ts

vector_taken : (n : ℕ) (a : WgslType) (ts us : List WgslType) (r : WgslType) → All IsValueType (a ∷ ts) → IsVectorCandidate n None us r → Takes us (a ∷ ts) →
    VectorTaken n (a ∷ ts) us r
vector_taken n a ts us r vs vector_zero k = absurd (taken_none a ts k)
vector_taken n a ts us r vs (vector_components t xs m) k =
    let q = are_taken t (a ∷ ts) xs vs m.of_type k in
    (record { at = t; parameters = q.filled; result = refl }, q.shaped, enough_taken n t (a ∷ ts) xs vs q k m.number)

vector_at : (n : ℕ) (a : WgslType) (ts : List WgslType) (c : WgslType) → All IsValueType (a ∷ ts) → All IsScalarOrVector (a ∷ ts) → IsEnough n (a ∷ ts) →
    IsLeftCommon (map inner_of (a ∷ ts)) (Some c) → IsLeastMade (IsVectorCandidate n None) (a ∷ ts) (Ok (vec n c))
vector_at n a ts c vs h k m =
    let ve = inner_values (a ∷ ts) h vs in
    let g = (left_common_least (map inner_of (a ∷ ts)) c ve m).0 in
    least_made (IsVectorCandidate n None) (a ∷ ts) (fill_all (shapes (a ∷ ts)) c) (vec n c)
    (least_member (IsVectorCandidate n None) (shapes (a ∷ ts)) (λ c. vec n c) (a ∷ ts) (map inner_of (a ∷ ts)) c (open_shapes a ts) vs ve (shaped_put (a ∷ ts) h) m
    (λ us r q t. (vector_taken n a ts us r vs q t).0) (vector_components c _ (filled_makes n c a ts h k g)))

no_vector : (n : ℕ) (a : WgslType) (ts : List WgslType) (e : Refusal) → All IsValueType (a ∷ ts) → (All IsScalarOrVector (a ∷ ts) → IsEnough n (a ∷ ts) → ⊥) →
    IsLeastMade (IsVectorCandidate n None) (a ∷ ts) (Err e)
no_vector n a ts e vs f =
    none_made (IsVectorCandidate n None) (a ∷ ts) e (λ us r q t. let k = vector_taken n a ts us r vs q t in f k.1 k.2)

uncommon_vector : (n : ℕ) (a : WgslType) (ts : List WgslType) (e : Refusal) → All IsValueType (a ∷ ts) → All IsScalarOrVector (a ∷ ts) →
    IsLeftCommon (map inner_of (a ∷ ts)) None → IsLeastMade (IsVectorCandidate n None) (a ∷ ts) (Err e)
uncommon_vector n a ts e vs h m =
    none_made (IsVectorCandidate n None) (a ∷ ts) e
    (no_member (IsVectorCandidate n None) (shapes (a ∷ ts)) (λ c. vec n c) (a ∷ ts) (map inner_of (a ∷ ts)) (open_shapes a ts) vs (inner_values (a ∷ ts) h vs) (shaped_put (a ∷ ts) h) m
    (λ us r q t. (vector_taken n a ts us r vs q t).0))

no_argument : (n : ℕ) → IsLeastMade (IsVectorCandidate n None) [] (Ok (vec n (scalar AbstractInt)))
no_argument n = least_made (IsVectorCandidate n None) [] [] (vec n (scalar AbstractInt)) (only_one (IsVectorCandidate n None) [] [] (vec n (scalar AbstractInt)) vector_zero ([], tt) only)
  where
    only : (vs : List WgslType) (s : WgslType) → IsVectorCandidate n None vs s → Takes vs [] → (vs ≡ []) × (s ≡ vec n (scalar AbstractInt))
    only vs s vector_zero k = (refl, refl)
    only vs s (vector_components t [] m) k = absurd (m.some refl)
    only vs s (vector_components t (x ∷ xs) m) k = absurd k.1

pub all_one : (P : WgslType → Type 0) (a : WgslType) → P a → All P (a ∷ [])
all_one P a h = All-cons P a [] h (All-nil P)

untyped_of_one : (n : ℕ) (a : WgslType) (r : Result WgslType Refusal) → IsValueType a → IsUntypedVectorOfOne n a r → IsLeastMade (IsVectorCandidate n None) (a ∷ []) r
untyped_of_one n (scalar s) r v h =
    subst (λ r. IsLeastMade (IsVectorCandidate n None) (scalar s ∷ []) r) (sym h)
    (vector_at n (scalar s) [] (scalar s) (all_one IsValueType (scalar s) v) (all_one IsScalarOrVector (scalar s) tt) (inr (s, refl)) (of_one_type (scalar s)))
untyped_of_one n (within (vec_of m) e) r v (inl h) =
    subst (λ r. IsLeastMade (IsVectorCandidate n None) (vec m e ∷ []) r) (sym h.1)
    (vector_at n (vec m e) [] e (all_one IsValueType (vec m e) v) (all_one IsScalarOrVector (vec m e) tt) (inl (omega (arith, h.0))) (of_one_type e))
untyped_of_one n (within (vec_of m) e) r v (inr h) =
    subst (λ r. IsLeastMade (IsVectorCandidate n None) (vec m e ∷ []) r) (sym h.1)
    (no_vector n (vec m e) [] _ (all_one IsValueType (vec m e) v) (λ q k. elim k [ inl p ↦ h.0 (omega (arith, p)) | inr p ↦ absurd (cc p.1) ]))
untyped_of_one n a r v h =
    subst (λ r. IsLeastMade (IsVectorCandidate n None) (a ∷ []) r) (sym h)
    (no_vector n a [] no_components_refusal (all_one IsValueType a v) (λ q k. All-head IsScalarOrVector a [] q))

untyped_of_several : (name : List ℕ) (n : ℕ) (a b : WgslType) (ts : List WgslType) (r : Result WgslType Refusal) → All IsValueType (a ∷ b ∷ ts) →
    IsUntypedVectorOfSeveral name n (a ∷ b ∷ ts) r → IsLeastMade (IsVectorCandidate n None) (a ∷ b ∷ ts) r
untyped_of_several name n a b ts r vs (inr h) =
    subst (λ r. IsLeastMade (IsVectorCandidate n None) (a ∷ b ∷ ts) r) (sym h.1) (no_vector n a (b ∷ ts) _ vs (λ q k. h.0 q))
untyped_of_several name n a b ts r vs (inl (q, inr h)) =
    subst (λ r. IsLeastMade (IsVectorCandidate n None) (a ∷ b ∷ ts) r) (sym h.1)
    (no_vector n a (b ∷ ts) _ vs (λ q k. elim k [ inl e ↦ h.0 e | inr e ↦ absurd (cc e.1) ]))
untyped_of_several name n a b ts r vs (inl (q, inl (e, h))) = by_common h.0 h.1 h.2
  where
    by_common : (c : Option WgslType) → IsLeftCommon (map inner_of (a ∷ b ∷ ts)) c →
        Then (ok_or c (builtin (codes "vector components are incompatible"))) (λ c q. q ≡ Ok (vec n c)) r → IsLeastMade (IsVectorCandidate n None) (a ∷ b ∷ ts) r
    by_common (Some c) m k = subst (λ r. IsLeastMade (IsVectorCandidate n None) (a ∷ b ∷ ts) r) (sym k) (vector_at n a (b ∷ ts) c vs q (inl e) m)
    by_common None m k = subst (λ r. IsLeastMade (IsVectorCandidate n None) (a ∷ b ∷ ts) r) (sym k) (uncommon_vector n a (b ∷ ts) _ vs q m)

pub untyped_vector : (name : List ℕ) (n : ℕ) (ts : List WgslType) (r : Result WgslType Refusal) → All IsValueType ts → IsUntypedVector name n ts r →
    IsLeastMade (IsVectorCandidate n None) ts r
untyped_vector name n [] r vs h = subst (λ r. IsLeastMade (IsVectorCandidate n None) [] r) (sym h) (no_argument n)
untyped_vector name n (a ∷ []) r vs h = untyped_of_one n a r (values_head a [] vs) h
untyped_vector name n (a ∷ b ∷ ts) r vs h = untyped_of_several name n a b ts r vs h
