-- What constructors of vectors with a template make of value types is the result of the least candidate.
use Rattle.std.proofs.Common.{◌≡◌, ℕ, ◌⊎◌, List, [], ◌∷◌, Some, Result, Ok, Err, All, map, refl, sym, ◌∙◌, ap, subst, inl, inr, arith}
use Rattle.wgsl_calls.proofs.Common.{All-nil, All-cons, All-head, All-tail, vec_of, WgslType, scalar, within, vec, IsScalarOrVector, inner_of, Parameter, IsValueType, ConvertsTo, of_one_type, Refusal, Receives, HasRanks, Takes, IsVecTemplate, BringsComponents, IsTypedVectorOfOne, IsTypedVectorOfSeveral, IsTypedVector, above_to_within, value_converts, receives_nil, receives_cons, receives_head, receives_tail, values_head, vec_template_once, inner, fill_all, taken_puts, puts_taken, put_once}
use Rattle.wgsl_calls.specs.Constructors.{IsVectorCandidate, typed_vector_zero, typed_vector_conversion, typed_vector_components, IsLeastMade}
use Rattle.wgsl_calls.proofs.ChosenAmong.{least_made, none_made, IsMember, least_member, only_one}
use Rattle.wgsl_calls.proofs.ChosenVectors.{shapes, are_taken, shaped_put, inner_values, IsEnough, filled_makes, enough_taken, taken_none, all_one}

-- the only type of a template
only_type : (ps : List Parameter) (t u : WgslType) → IsVecTemplate ps (Ok t) → IsVecTemplate ps (Ok u) → u ≡ t
only_type ps t u h k = let e = vec_template_once ps (Ok u) (Ok t) k h in cc e

-- the components of the arguments convert to t
brings : (t a : WgslType) → IsScalarOrVector a → ConvertsTo (inner_of a) t → BringsComponents t a
brings t (scalar s) h g = g
brings t (within (vec_of m) e) h g = g
brings t a h g = absurd h

brought : (t a : WgslType) → BringsComponents t a → IsScalarOrVector a × ConvertsTo (inner_of a) t
brought t (scalar s) h = (tt, h)
brought t (within (vec_of m) e) h = (tt, h)
brought t a h = absurd h

all_bring : (t : WgslType) (ts : List WgslType) → All IsScalarOrVector ts → Receives t (map inner_of ts) → All (BringsComponents t) ts
all_bring t [] h g = All-nil (BringsComponents t)
all_bring t (a ∷ ts) h g =
    All-cons (BringsComponents t) a ts
    (brings t a (All-head IsScalarOrVector a ts h) (receives_head t (inner_of a) (map inner_of ts) g))
    (all_bring t ts (All-tail IsScalarOrVector a ts h) (receives_tail t (inner_of a) (map inner_of ts) g))

all_brought : (t : WgslType) (ts : List WgslType) → All (BringsComponents t) ts → All IsScalarOrVector ts × Receives t (map inner_of ts)
all_brought t [] h = (All-nil IsScalarOrVector, receives_nil t)
all_brought t (a ∷ ts) h =
    let m = brought t a (All-head (BringsComponents t) a ts h) in
    let k = all_brought t ts (All-tail (BringsComponents t) a ts h) in
    (All-cons IsScalarOrVector a ts m.0 k.0, receives_cons t (inner_of a) (map inner_of ts) m.1 k.1)

-- A candidate that takes arguments converts a vector, or has components of t.
record OfComponents (n : ℕ) (t : WgslType) (ts us : List WgslType) : Type 0 where
  parameters : us ≡ fill_all (shapes ts) t
  shaped : All IsScalarOrVector ts
  enough : IsEnough n ts
  received : Receives t (map inner_of ts)

abbrev TypedTaken : ℕ → WgslType → List WgslType → List WgslType → WgslType → Type 0
TypedTaken n t ts us r = (r ≡ vec n t) × (((e : WgslType) × (us ≡ vec n e ∷ [])) ⊎ OfComponents n t ts us)

of_components : (n : ℕ) (t : WgslType) (ts us : List WgslType) → All IsValueType ts → (k : Takes us ts) → All IsScalarOrVector ts → us ≡ fill_all (shapes ts) t → IsEnough n ts →
    OfComponents n t ts us
of_components n t ts us vs k h e m =
    let p = taken_puts (shapes ts) t ts k.0 vs (subst (λ us. HasRanks ts us k.0) e k.1) in
    record {
      parameters = e;
      shaped = h;
      enough = m;
      received = subst (λ es. Receives t es) (put_once (shapes ts) ts p.types (map inner_of ts) p.put (shaped_put ts h)) p.received;
    }

typed_taken : (n : ℕ) (ps : List Parameter) (t a : WgslType) (ts us : List WgslType) (r : WgslType) → IsVecTemplate ps (Ok t) → All IsValueType (a ∷ ts) →
    IsVectorCandidate n (Some ps) us r → Takes us (a ∷ ts) → TypedTaken n t (a ∷ ts) us r
typed_taken n ps t a ts us r h vs (typed_vector_zero ps' u k) q = absurd (taken_none a ts q)
typed_taken n ps t a ts us r h vs (typed_vector_conversion ps' u e k) q = (ap (λ t. vec n t) (only_type ps t u h k), inl (e, refl))
typed_taken n ps t a ts us r h vs (typed_vector_components ps' u xs k m) q =
    let e = only_type ps t u h k in
    let p = are_taken u (a ∷ ts) xs vs m.of_type q in
    (ap (λ t. vec n t) e, inr (of_components n t (a ∷ ts) xs vs q p.shaped (p.filled ∙ ap (λ t. fill_all (shapes (a ∷ ts)) t) e) (enough_taken n u (a ∷ ts) xs vs p q m.number)))

abbrev Typed : ℕ → List Parameter → List WgslType → WgslType → Type 0
Typed n ps = IsVectorCandidate n (Some ps)

refused_typed : (n : ℕ) (ps : List Parameter) (t a : WgslType) (ts : List WgslType) (e : Refusal) → IsVecTemplate ps (Ok t) → All IsValueType (a ∷ ts) →
    ((e : WgslType) → Takes (vec n e ∷ []) (a ∷ ts) → ⊥) → (All IsScalarOrVector (a ∷ ts) → IsEnough n (a ∷ ts) → Receives t (map inner_of (a ∷ ts)) → ⊥) →
    IsLeastMade (Typed n ps) (a ∷ ts) (Err e)
refused_typed n ps t a ts e h vs f g = none_made (Typed n ps) (a ∷ ts) e (λ us r q k. against us k (typed_taken n ps t a ts us r h vs q k).1)
  where
    against : (us : List WgslType) → Takes us (a ∷ ts) → ((e : WgslType) × (us ≡ vec n e ∷ [])) ⊎ OfComponents n t (a ∷ ts) us → ⊥
    against us k (inl p) = f p.0 (subst (λ us. Takes us (a ∷ ts)) p.1 k)
    against us k (inr p) = g p.shaped p.enough p.received

-- components that convert to t
typed_at : (n : ℕ) (ps : List Parameter) (t a : WgslType) (ts : List WgslType) → IsVecTemplate ps (Ok t) → All IsValueType (a ∷ ts) →
    ((e : WgslType) → Takes (vec n e ∷ []) (a ∷ ts) → ⊥) → All IsScalarOrVector (a ∷ ts) → IsEnough n (a ∷ ts) → Receives t (map inner_of (a ∷ ts)) →
    IsLeastMade (Typed n ps) (a ∷ ts) (Ok (vec n t))
typed_at n ps t a ts h vs f q m g =
    let us = fill_all (shapes (a ∷ ts)) t in
    least_made (Typed n ps) (a ∷ ts) us (vec n t)
    (only_one (Typed n ps) (a ∷ ts) us (vec n t) (typed_vector_components ps t us h (filled_makes n t a ts q m g))
    (puts_taken (shapes (a ∷ ts)) t (a ∷ ts) (map inner_of (a ∷ ts)) (shaped_put (a ∷ ts) q) (inner_values (a ∷ ts) q vs) g)
    (λ vs' s c k. let j = typed_taken n ps t a ts vs' s h vs c k in (only vs' k j.1, j.0)))
  where
    only : (us : List WgslType) → Takes us (a ∷ ts) → ((e : WgslType) × (us ≡ vec n e ∷ [])) ⊎ OfComponents n t (a ∷ ts) us → us ≡ fill_all (shapes (a ∷ ts)) t
    only us k (inl p) = absurd (f p.0 (subst (λ us. Takes us (a ∷ ts)) p.1 k))
    only us k (inr p) = p.parameters

-- a vector with n components, whatever they are
typed_converted : (n : ℕ) (ps : List Parameter) (t e : WgslType) → IsVecTemplate ps (Ok t) → IsValueType e → IsLeastMade (Typed n ps) (vec n e ∷ []) (Ok (vec n t))
typed_converted n ps t e h v =
    let vs = all_one IsValueType (vec n e) v in
    least_made (Typed n ps) (vec n e ∷ []) (vec n e ∷ []) (vec n t)
    (least_member (Typed n ps) (inner (vec_of n) ∷ []) (λ c. vec n t) (vec n e ∷ []) (e ∷ []) e tt vs (all_one IsValueType e v) (e, [], refl, refl, refl) (of_one_type e)
    (λ us r q k. let j = typed_taken n ps t (vec n e) [] us r h vs q k in member us r j.0 j.1) (typed_vector_conversion ps t e h))
  where
    member : (us : List WgslType) (r : WgslType) → r ≡ vec n t → ((e : WgslType) × (us ≡ vec n e ∷ [])) ⊎ OfComponents n t (vec n e ∷ []) us →
        IsMember (inner (vec_of n) ∷ []) (λ c. vec n t) us r
    member us r p (inl q) = record { at = q.0; parameters = q.1; result = p }
    member us r p (inr q) = record { at = t; parameters = q.parameters; result = p }

-- only a vector with n components converts to one
no_conversion : (n : ℕ) (a e : WgslType) → IsValueType a → Takes (vec n e ∷ []) (a ∷ []) → (c : WgslType) × (a ≡ vec n c)
no_conversion n a e v (w ∷ ws, k) = let m = above_to_within (value_converts v k.0).0 (vec_of n) e refl in (m.0, m.1)
no_conversion n a e v ([], k) = absurd k

several : (n : ℕ) (a b e : WgslType) (ts : List WgslType) → Takes (vec n e ∷ []) (a ∷ b ∷ ts) → ⊥
several n a b e ts ([], k) = k
several n a b e ts (w ∷ [], k) = k.1
several n a b e ts (w ∷ x ∷ ws, k) = k.1

typed_of_one : (n : ℕ) (ps : List Parameter) (t a : WgslType) (r : Result WgslType Refusal) → IsVecTemplate ps (Ok t) → IsValueType a → IsTypedVectorOfOne n a t r →
    IsLeastMade (Typed n ps) (a ∷ []) r
typed_of_one n ps t (scalar s) r h v (inl k) =
    subst (λ r. IsLeastMade (Typed n ps) (scalar s ∷ []) r) (sym k.1)
    (typed_at n ps t (scalar s) [] h (all_one IsValueType (scalar s) tt) (λ e q. let p = no_conversion n (scalar s) e tt q in cc p.1)
    (all_one IsScalarOrVector (scalar s) tt) (inr (s, refl)) (receives_cons t (scalar s) [] k.0 (receives_nil t)))
typed_of_one n ps t (scalar s) r h v (inr k) =
    subst (λ r. IsLeastMade (Typed n ps) (scalar s ∷ []) r) (sym k.1)
    (refused_typed n ps t (scalar s) [] _ h (all_one IsValueType (scalar s) tt) (λ e q. let p = no_conversion n (scalar s) e tt q in cc p.1)
    (λ q m g. k.0 (receives_head t (scalar s) [] g)))
typed_of_one n ps t (within (vec_of m) e) r h v (inl k) =
    subst (λ r. IsLeastMade (Typed n ps) (vec m e ∷ []) r) (sym k.1)
    (subst (λ m. IsLeastMade (Typed n ps) (vec m e ∷ []) (Ok (vec n t))) (sym k.0) (typed_converted n ps t e h v))
typed_of_one n ps t (within (vec_of m) e) r h v (inr k) =
    subst (λ r. IsLeastMade (Typed n ps) (vec m e ∷ []) r) (sym k.1)
    (refused_typed n ps t (vec m e) [] _ h (all_one IsValueType (vec m e) v) (λ e q. let p = no_conversion n (vec m _) e v q in k.0 (cc p.1))
    (λ q j g. elim j [ inl p ↦ k.0 (omega (arith, p)) | inr p ↦ absurd (cc p.1) ]))
typed_of_one n ps t a r h v k =
    subst (λ r. IsLeastMade (Typed n ps) (a ∷ []) r) (sym k)
    (refused_typed n ps t a [] _ h (all_one IsValueType a v) (λ e q. let p = no_conversion n a e v q in cc p.1) (λ q m g. All-head IsScalarOrVector a [] q))

typed_of_several : (name : List ℕ) (n : ℕ) (ps : List Parameter) (t a b : WgslType) (ts : List WgslType) (r : Result WgslType Refusal) → IsVecTemplate ps (Ok t) →
    All IsValueType (a ∷ b ∷ ts) → IsTypedVectorOfSeveral name n (a ∷ b ∷ ts) t r → IsLeastMade (Typed n ps) (a ∷ b ∷ ts) r
typed_of_several name n ps t a b ts r h vs (inr k) =
    subst (λ r. IsLeastMade (Typed n ps) (a ∷ b ∷ ts) r) (sym k.1)
    (refused_typed n ps t a (b ∷ ts) _ h vs (λ e q. several n a b e ts q) (λ q m g. k.0 (all_bring t (a ∷ b ∷ ts) q g)))
typed_of_several name n ps t a b ts r h vs (inl (all, inr k)) =
    subst (λ r. IsLeastMade (Typed n ps) (a ∷ b ∷ ts) r) (sym k.1)
    (refused_typed n ps t a (b ∷ ts) _ h vs (λ e q. several n a b e ts q) (λ q m g. elim m [ inl p ↦ k.0 p | inr p ↦ absurd (cc p.1) ]))
typed_of_several name n ps t a b ts r h vs (inl (all, inl (e, k))) =
    let m = all_brought t (a ∷ b ∷ ts) all in
    subst (λ r. IsLeastMade (Typed n ps) (a ∷ b ∷ ts) r) (sym k)
    (typed_at n ps t a (b ∷ ts) h vs (λ e q. several n a b e ts q) m.0 (inl e) m.1)

no_argument : (n : ℕ) (ps : List Parameter) (t : WgslType) → IsVecTemplate ps (Ok t) → IsLeastMade (Typed n ps) [] (Ok (vec n t))
no_argument n ps t h = least_made (Typed n ps) [] [] (vec n t) (only_one (Typed n ps) [] [] (vec n t) (typed_vector_zero ps t h) ([], tt) only)
  where
    only : (vs : List WgslType) (s : WgslType) → Typed n ps vs s → Takes vs [] → (vs ≡ []) × (s ≡ vec n t)
    only vs s (typed_vector_zero ps' u k) q = (refl, ap (λ t. vec n t) (only_type ps t u h k))
    only vs s (typed_vector_conversion ps' u e k) q = absurd q.1
    only vs s (typed_vector_components ps' u [] k m) q = absurd (m.some refl)
    only vs s (typed_vector_components ps' u (x ∷ xs) k m) q = absurd q.1

pub typed_vector : (name : List ℕ) (n : ℕ) (ps : List Parameter) (t : WgslType) (ts : List WgslType) (r : Result WgslType Refusal) → IsVecTemplate ps (Ok t) → All IsValueType ts →
    IsTypedVector name n ts t r → IsLeastMade (IsVectorCandidate n (Some ps)) ts r
typed_vector name n ps t [] r h vs k = subst (λ r. IsLeastMade (Typed n ps) [] r) (sym k) (no_argument n ps t h)
typed_vector name n ps t (a ∷ []) r h vs k = typed_of_one n ps t a r h (values_head a [] vs) k
typed_vector name n ps t (a ∷ b ∷ ts) r h vs k = typed_of_several name n ps t a b ts r h vs k

-- a template that is refused has no candidates
pub refused_vector_template : (n : ℕ) (ps : List Parameter) (ts : List WgslType) (e : Refusal) → IsVecTemplate ps (Err e) → IsLeastMade (IsVectorCandidate n (Some ps)) ts (Err e)
refused_vector_template n ps ts e h = none_made (Typed n ps) ts e (λ us t q k. against us t q)
  where
    contradicts : (t : WgslType) → IsVecTemplate ps (Ok t) → ⊥
    contradicts t k = let p = vec_template_once ps (Ok t) (Err e) k h in cc p

    against : (us : List WgslType) (t : WgslType) → Typed n ps us t → ⊥
    against us t (typed_vector_zero ps' u k) = contradicts u k
    against us t (typed_vector_conversion ps' u e' k) = contradicts u k
    against us t (typed_vector_components ps' u xs k m) = contradicts u k
