-- What constructors of matrices with a template make of value types is the result of the least candidate.
use Rattle.std.proofs.Common.{◌≡◌, ℕ, ◌⊎◌, List, [], ◌∷◌, length, Option, Some, None, Result, Ok, Err, All, ok_or, option_map, refl, sym, ◌∙◌, ap, subst, inl, inr}
use Rattle.wgsl_calls.proofs.Common.{Scalar, mat_of, WgslType, scalar, within, mat, IsFloatScalar, inner_of, Parameter, of_type, IsValueType, IsConverted, IsConvertedInside, IsLeftCommon, of_one_type, Refusal, conversion, builtin, Takes, IsTemplateOf, IsMatTemplate, Then, ThenCommon, Above, above_converts, above_inside, above_values, value_above, receives_head, values_head, left_common_least, left_common_none, mat_template_once, whole, fill_all, taken_above, above_outer}
use Rattle.wgsl_rules.specs.constructors.Matrices.{incompatible_matrix, IsMatrixOf, IsTypedMatrixOf, IsTypedMatrixOfOne, IsTypedMatrix}
use Rattle.wgsl_calls.specs.Constructors.{MakeColumns, IsMatrixCandidate, typed_matrix_zero, typed_matrix_conversion, typed_matrix_components, IsLeastMade}
use Rattle.wgsl_calls.proofs.ChosenAmong.{least_made, none_made, least_member, only_one, IsMember}
use Rattle.wgsl_calls.proofs.ChosenArrays.{wholes, taken_received, received_taken, taken_by_none}
use Rattle.wgsl_calls.proofs.ChosenVectors.{all_one}
use Rattle.wgsl_calls.proofs.MatrixColumns.{FitsColumns, OfOneType, one_type, columns_of, fits_before, fits_after, same_fit, matrix_apart, of_number, first_above, NoMatrix, no_matrix, several}

abbrev Typed : ℕ → ℕ → List Parameter → List WgslType → WgslType → Type 0
Typed c r ps = IsMatrixCandidate c r (Some ps)

-- the only type of a template
only_type : (ps : List Parameter) (t u : WgslType) → IsMatTemplate ps (Ok t) → IsMatTemplate ps (Ok u) → u ≡ t
only_type ps t u h k = let e = mat_template_once ps (Ok u) (Ok t) k h in cc e

template_fits : (P : WgslType → Type 0) (name message : List ℕ) (ps : List Parameter) (t : WgslType) → IsTemplateOf P name message ps (Ok t) → P t
template_fits P name message (of_type u ∷ []) t h = subst P (sym h.1) h.0
template_fits P name message ps t h = absurd (cc h)

template_scalar : (ps : List Parameter) (t : WgslType) → IsMatTemplate ps (Ok t) → (s : Scalar) × (t ≡ scalar s)
template_scalar ps t h = of_float t (template_fits IsFloatScalar _ _ ps t h)
  where
    of_float : (t : WgslType) → IsFloatScalar t → (s : Scalar) × (t ≡ scalar s)
    of_float (scalar s) h = (s, refl)
    of_float t h = absurd h

-- a candidate that takes arguments converts one matrix, or has parameters of one type
abbrev CandidateTaken : ℕ → ℕ → WgslType → List WgslType → List WgslType → WgslType → Type 0
CandidateTaken c r t ts us q = (q ≡ mat c r t) × (((e : WgslType) × (us ≡ mat c r e ∷ [])) ⊎ OfOneType c r t ts us)

candidate_taken : (c r : ℕ) (ps : List Parameter) (t a : WgslType) (ts us : List WgslType) (q : WgslType) → IsMatTemplate ps (Ok t) → Typed c r ps us q → Takes us (a ∷ ts) →
    CandidateTaken c r t (a ∷ ts) us q
candidate_taken c r ps t a ts us q h (typed_matrix_zero ps' u g) k = absurd k.1
candidate_taken c r ps t a ts us q h (typed_matrix_conversion ps' u e g) k = (ap (λ t. mat c r t) (only_type ps t u h g), inl (e, refl))
candidate_taken c r ps t a ts us q h (typed_matrix_components ps' u xs g m) k =
    let s = template_scalar ps u g in
    let e = only_type ps t u h g in
    (ap (λ t. mat c r t) e, inr (subst (λ t. OfOneType c r t (a ∷ ts) xs) e (one_type c r s.0 u (a ∷ ts) xs s.1 m k)))

-- One matrix

converted : (c r : ℕ) (ps : List Parameter) (t e : WgslType) → IsMatTemplate ps (Ok t) → IsValueType e → IsLeastMade (Typed c r ps) (mat c r e ∷ []) (Ok (mat c r t))
converted c r ps t e h v =
    let vs = all_one IsValueType (mat c r e) v in
    least_made (Typed c r ps) (mat c r e ∷ []) (mat c r e ∷ []) (mat c r t)
    (least_member (Typed c r ps) (whole ∷ []) (λ u. mat c r t) (mat c r e ∷ []) (mat c r e ∷ []) (mat c r e) tt vs vs ([], refl, refl) (of_one_type (mat c r e))
    (λ us q g k. let j = candidate_taken c r ps t (mat c r e) [] us q h g k in member us q k j.0 j.1) (typed_matrix_conversion ps t e h))
  where
    member : (us : List WgslType) (q : WgslType) → Takes us (mat c r e ∷ []) → q ≡ mat c r t → ((e : WgslType) × (us ≡ mat c r e ∷ [])) ⊎ OfOneType c r t (mat c r e ∷ []) us →
        IsMember (whole ∷ []) (λ u. mat c r t) us q
    member us q k p (inl j) = record { at = mat c r j.0; parameters = j.1; result = p }
    member us q k p (inr j) =
        let a = first_above j.ty (mat c r e) [] v (subst (λ us. Takes us (mat c r e ∷ [])) j.parameters k) in
        absurd (matrix_apart c r 1 c r e j.ty a j.fits)

other_shape : (c r d s : ℕ) (ps : List Parameter) (t e : WgslType) (x : Refusal) → IsMatTemplate ps (Ok t) → IsValueType e → (((d ≡ c) × (s ≡ r)) → ⊥) →
    IsLeastMade (Typed c r ps) (mat d s e ∷ []) (Err x)
other_shape c r d s ps t e x h v f =
    none_made (Typed c r ps) (mat d s e ∷ []) x (λ us q g k. against us k (candidate_taken c r ps t (mat d s e) [] us q h g k).1)
  where
    against : (us : List WgslType) → Takes us (mat d s e ∷ []) → ((e : WgslType) × (us ≡ mat c r e ∷ [])) ⊎ OfOneType c r t (mat d s e ∷ []) us → ⊥
    against us k (inl j) =
        let m = no_matrix c r (mat d s e) j.0 v (subst (λ us. Takes us (mat d s e ∷ [])) j.1 k) in
        let p : mat d s e ≡ mat c r m.0 = m.1 in
        f (cc p, cc p)
    against us k (inr j) =
        let a = first_above j.ty (mat d s e) [] v (subst (λ us. Takes us (mat d s e ∷ [])) j.parameters k) in
        matrix_apart c r 1 d s e j.ty a j.fits

-- Arguments other than one matrix, by their common type

one_parameter : (c r : ℕ) (t : WgslType) (ts us : List WgslType) → NoMatrix c r ts → Takes us ts → ((e : WgslType) × (us ≡ mat c r e ∷ [])) ⊎ OfOneType c r t ts us → OfOneType c r t ts us
one_parameter c r t ts us n k (inl h) = absurd (n h.0 (subst (λ us. Takes us ts) h.1 k))
one_parameter c r t ts us n k (inr h) = h

-- the common type converted inside to t
inside_some : (s : Scalar) (u t w : WgslType) → t ≡ scalar s → IsValueType u → IsConvertedInside u t (Some w) → Above u w × (inner_of w ≡ t)
inside_some s (within l e) t w p v h = of_element h.0 h.1 h.2
  where
    of_element : (x : Option WgslType) → IsConverted e t x → Some w ≡ option_map (λ v. within l v) x → Above (within l e) w × (inner_of w ≡ t)
    of_element None k q = absurd (cc q)
    of_element (Some y) k q =
        let a : Above e y = subst (λ y. Above e y) (sym k.1) (value_above v k.0) in
        let i : w ≡ within l y = cc q in
        (subst (λ w. Above (within l e) w) (sym i) (above_inside l a), ap inner_of i ∙ k.1)
inside_some s u t w p v h =
    (subst (λ w. Above u w) (sym h.1) (value_above v h.0), ap inner_of (h.1 ∙ p) ∙ sym p)

inside_none : (c r n : ℕ) (u t : WgslType) → IsConvertedInside u t None → FitsColumns c r n u → Above (inner_of u) t → ⊥
inside_none c r n (within l e) t h f a = of_element h.0 h.1 h.2
  where
    of_element : (x : Option WgslType) → IsConverted e t x → None ≡ option_map (λ v. within l v) x → ⊥
    of_element None k q = k (above_converts a)
    of_element (Some y) k q = cc q
inside_none c r n (scalar s) t h f a = h (above_converts a)
inside_none c r n u t h f a = f

columns_at : (c r : ℕ) (ps : List Parameter) (t a : WgslType) (ts : List WgslType) (u w : WgslType) → IsMatTemplate ps (Ok t) → All IsValueType (a ∷ ts) → NoMatrix c r (a ∷ ts) →
    IsLeftCommon (a ∷ ts) (Some u) → Above u w → inner_of w ≡ t → FitsColumns c r (length (a ∷ ts)) w → IsLeastMade (Typed c r ps) (a ∷ ts) (Ok (mat c r t))
columns_at c r ps t a ts u w h vs n m b i f =
    let us = fill_all (wholes (a ∷ ts)) w in
    let k = taken_above (wholes (a ∷ ts)) (a ∷ ts) u w vs (received_taken u (a ∷ ts) vs (left_common_least (a ∷ ts) u vs m).0) b in
    least_made (Typed c r ps) (a ∷ ts) us (mat c r t)
    (only_one (Typed c r ps) (a ∷ ts) us (mat c r t)
    (typed_matrix_components ps t us h (subst (λ t. MakeColumns c r t us) i (columns_of c r w a ts f))) k
    (λ vs' q g j. let o = candidate_taken c r ps t a ts vs' q h g j in (only k vs' j (one_parameter c r t (a ∷ ts) vs' n j o.1), o.0)))
  where
    only : Takes (fill_all (wholes (a ∷ ts)) w) (a ∷ ts) → (us : List WgslType) → Takes us (a ∷ ts) → OfOneType c r t (a ∷ ts) us → us ≡ fill_all (wholes (a ∷ ts)) w
    only k us j o =
        let va = values_head a ts vs in
        let x = above_outer (first_above o.ty a ts va (subst (λ us. Takes us (a ∷ ts)) o.parameters j)) in
        let y = above_outer (first_above w a ts va k) in
        o.parameters ∙ ap (λ u. fill_all (wholes (a ∷ ts)) u) (same_fit c r (length (a ∷ ts)) o.ty w o.fits f (sym x ∙ y) (o.component ∙ sym i))

-- no candidate takes the arguments where their common type doesn't convert
none_takes : (c r : ℕ) (ps : List Parameter) (t a : WgslType) (ts : List WgslType) (u : WgslType) (x : Refusal) → IsMatTemplate ps (Ok t) → All IsValueType (a ∷ ts) → NoMatrix c r (a ∷ ts) →
    IsLeftCommon (a ∷ ts) (Some u) → (FitsColumns c r (length (a ∷ ts)) u → Above (inner_of u) t → ⊥) → IsLeastMade (Typed c r ps) (a ∷ ts) (Err x)
none_takes c r ps t a ts u x h vs n m f =
    none_made (Typed c r ps) (a ∷ ts) x (λ us q g k. against us k (one_parameter c r t (a ∷ ts) us n k (candidate_taken c r ps t a ts us q h g k).1))
  where
    against : (us : List WgslType) → Takes us (a ∷ ts) → OfOneType c r t (a ∷ ts) us → ⊥
    against us k o =
        let g = left_common_least (a ∷ ts) u vs m in
        let va = values_head a ts vs in
        let vu = (above_values (value_above va (receives_head u a ts g.0))).0 va in
        let b = value_above vu (g.1 o.ty (taken_received o.ty (a ∷ ts) (subst (λ us. Takes us (a ∷ ts)) o.parameters k))) in
        let j = fits_before c r (length (a ∷ ts)) u o.ty b o.fits in
        f j.0 (subst (λ t. Above (inner_of u) t) o.component j.1)

uncommon : (c r : ℕ) (ps : List Parameter) (t a : WgslType) (ts : List WgslType) (x : Refusal) → IsMatTemplate ps (Ok t) → All IsValueType (a ∷ ts) → NoMatrix c r (a ∷ ts) →
    IsLeftCommon (a ∷ ts) None → IsLeastMade (Typed c r ps) (a ∷ ts) (Err x)
uncommon c r ps t a ts x h vs n m =
    none_made (Typed c r ps) (a ∷ ts) x (λ us q g k. against us k (one_parameter c r t (a ∷ ts) us n k (candidate_taken c r ps t a ts us q h g k).1))
  where
    against : (us : List WgslType) → Takes us (a ∷ ts) → OfOneType c r t (a ∷ ts) us → ⊥
    against us k o = left_common_none a ts vs m o.ty (taken_received o.ty (a ∷ ts) (subst (λ us. Takes us (a ∷ ts)) o.parameters k))

by_common : (name : List ℕ) (c r : ℕ) (ps : List Parameter) (t a : WgslType) (ts : List WgslType) (q : Result WgslType Refusal) → IsMatTemplate ps (Ok t) → All IsValueType (a ∷ ts) →
    NoMatrix c r (a ∷ ts) → ThenCommon (a ∷ ts) incompatible_matrix (IsTypedMatrixOf name c r (length (a ∷ ts)) t) q → IsLeastMade (Typed c r ps) (a ∷ ts) q
by_common name c r ps t a ts q h vs n k = of_common k.0 k.1 k.2
  where
    of_number_at : (u w : WgslType) → IsLeftCommon (a ∷ ts) (Some u) → Above u w → inner_of w ≡ t → IsMatrixOf name c r (length (a ∷ ts)) t w q → IsLeastMade (Typed c r ps) (a ∷ ts) q
    of_number_at u w m b i g =
        elim (of_number name c r (length (a ∷ ts)) t w q g) [
          | inl j ↦ subst (λ q. IsLeastMade (Typed c r ps) (a ∷ ts) q) (sym j.1) (columns_at c r ps t a ts u w h vs n m b i j.0)
          | inr j ↦ subst (λ q. IsLeastMade (Typed c r ps) (a ∷ ts) q) (sym j.1.1)
              (none_takes c r ps t a ts u j.1.0 h vs n m (λ f d. j.0 (fits_after c r (length (a ∷ ts)) u w b f)))
        ]

    of_inside : (u : WgslType) (v : Option WgslType) → IsLeftCommon (a ∷ ts) (Some u) → IsConvertedInside u t v →
        Then (ok_or v (conversion (inner_of u) t)) (IsMatrixOf name c r (length (a ∷ ts)) t) q → IsLeastMade (Typed c r ps) (a ∷ ts) q
    of_inside u (Some w) m i g =
        let va = values_head a ts vs in
        let vu = (above_values (value_above va (receives_head u a ts (left_common_least (a ∷ ts) u vs m).0))).0 va in
        let s = template_scalar ps t h in
        let j = inside_some s.0 u t w s.1 vu i in
        of_number_at u w m j.0 j.1 g
    of_inside u None m i g =
        subst (λ q. IsLeastMade (Typed c r ps) (a ∷ ts) q) (sym g) (none_takes c r ps t a ts u _ h vs n m (λ f d. inside_none c r (length (a ∷ ts)) u t i f d))

    of_common : (u : Option WgslType) → IsLeftCommon (a ∷ ts) u → Then (ok_or u (builtin incompatible_matrix)) (IsTypedMatrixOf name c r (length (a ∷ ts)) t) q →
        IsLeastMade (Typed c r ps) (a ∷ ts) q
    of_common (Some u) m g = of_inside u g.0 m g.1 g.2
    of_common None m g = subst (λ q. IsLeastMade (Typed c r ps) (a ∷ ts) q) (sym g) (uncommon c r ps t a ts _ h vs n m)

no_argument : (c r : ℕ) (ps : List Parameter) (t : WgslType) → IsMatTemplate ps (Ok t) → IsLeastMade (Typed c r ps) [] (Ok (mat c r t))
no_argument c r ps t h = least_made (Typed c r ps) [] [] (mat c r t) (only_one (Typed c r ps) [] [] (mat c r t) (typed_matrix_zero ps t h) ([], tt) only)
  where
    only : (vs : List WgslType) (q : WgslType) → Typed c r ps vs q → Takes vs [] → (vs ≡ []) × (q ≡ mat c r t)
    only vs q (typed_matrix_zero ps' u g) k = (refl, ap (λ t. mat c r t) (only_type ps t u h g))
    only vs q (typed_matrix_conversion ps' u e g) k = absurd k.1
    only vs q (typed_matrix_components ps' u xs g m) k = absurd (m.some (taken_by_none xs k))

of_one : (name : List ℕ) (c r : ℕ) (ps : List Parameter) (t a : WgslType) (q : Result WgslType Refusal) → IsMatTemplate ps (Ok t) → IsValueType a → IsTypedMatrixOfOne name c r a t q →
    IsLeastMade (Typed c r ps) (a ∷ []) q
of_one name c r ps t (within (mat_of d s) e) q h v (inl k) =
    subst (λ q. IsLeastMade (Typed c r ps) (mat d s e ∷ []) q) (sym k.1)
    (subst (λ d. IsLeastMade (Typed c r ps) (mat d s e ∷ []) (Ok (mat c r t))) (sym k.0.0)
    (subst (λ s. IsLeastMade (Typed c r ps) (mat c s e ∷ []) (Ok (mat c r t))) (sym k.0.1) (converted c r ps t e h v)))
of_one name c r ps t (within (mat_of d s) e) q h v (inr k) = subst (λ q. IsLeastMade (Typed c r ps) (mat d s e ∷ []) q) (sym k.1) (other_shape c r d s ps t e _ h v k.0)
of_one name c r ps t a q h v k = by_common name c r ps t a [] q h (all_one IsValueType a v) (λ e j. let m = no_matrix c r a e v j in cc m.1) k

pub typed_matrix : (name : List ℕ) (c r : ℕ) (ps : List Parameter) (t : WgslType) (ts : List WgslType) (q : Result WgslType Refusal) → IsMatTemplate ps (Ok t) → All IsValueType ts →
    IsTypedMatrix name c r ts t q → IsLeastMade (IsMatrixCandidate c r (Some ps)) ts q
typed_matrix name c r ps t [] q h vs k = subst (λ q. IsLeastMade (Typed c r ps) [] q) (sym k) (no_argument c r ps t h)
typed_matrix name c r ps t (a ∷ []) q h vs k = of_one name c r ps t a q h (values_head a [] vs) k
typed_matrix name c r ps t (a ∷ b ∷ ts) q h vs k = by_common name c r ps t a (b ∷ ts) q h vs (λ e j. several c r a b e ts j) k

-- a template that is refused has no candidates
pub refused_matrix_template : (c r : ℕ) (ps : List Parameter) (ts : List WgslType) (e : Refusal) → IsMatTemplate ps (Err e) → IsLeastMade (IsMatrixCandidate c r (Some ps)) ts (Err e)
refused_matrix_template c r ps ts e h = none_made (Typed c r ps) ts e (λ us t q k. against us t q)
  where
    contradicts : (t : WgslType) → IsMatTemplate ps (Ok t) → ⊥
    contradicts t k = let p = mat_template_once ps (Ok t) (Err e) k h in cc p

    against : (us : List WgslType) (t : WgslType) → Typed c r ps us t → ⊥
    against us t (typed_matrix_zero ps' u k) = contradicts u k
    against us t (typed_matrix_conversion ps' u e' k) = contradicts u k
    against us t (typed_matrix_components ps' u xs k m) = contradicts u k
