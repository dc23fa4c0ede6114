-- What constructors of arrays and scalars make of value types is the result of the least candidate.
use Rattle.std.proofs.Common.{◌≡◌, ℕ, List, [], ◌∷◌, length, Option, Some, None, Result, Ok, Err, All, codes, ok_or, refl, sym, ◌∙◌, ap, subst, inl, inr, arith}
use Rattle.wgsl_calls.proofs.Common.{All-nil, All-cons, All-head, All-tail, array_of, WgslType, within, array, Parameter, IsValueType, IsLeftCommon, folded, Refusal, builtin, Receives, HasRanks, Takes, array_template, Then, IsFirstStuck, IsTypedArray, IsArrayCall, receives_nil, receives_cons, receives_head, receives_tail, Slot, whole, fill_all, IsPut, puts_taken}
use Rattle.wgsl_calls.specs.Constructors.{AreAll, IsArrayCandidate, array_elements, typed_array_zero, typed_array_elements, IsLeastMade}
use Rattle.wgsl_calls.proofs.ChosenAmong.{least_made, none_made, least_member, no_member, only_one, IsMember}

-- Parameters that are all the same: each slot is whole.

abbrev pub wholes : List WgslType → List Slot
wholes [] = []
wholes (t ∷ ts) = whole ∷ wholes ts

pub whole_put : (ts : List WgslType) → IsPut (wholes ts) ts ts
whole_put [] = refl
whole_put (t ∷ ts) = (ts, refl, whole_put ts)

pub taken_all : (u : WgslType) (ts us : List WgslType) → AreAll u us → Takes us ts → us ≡ fill_all (wholes ts) u
taken_all u ts us h k = each ts us k.0 h k.1
  where
    each : (ts us : List WgslType) (ws : List ℕ) → AreAll u us → HasRanks ts us ws → us ≡ fill_all (wholes ts) u
    each [] [] ws h k = refl
    each [] (v ∷ vs) ws h k = absurd k
    each (t ∷ ts) [] ws h k = absurd k
    each (t ∷ ts) (v ∷ vs) [] h k = absurd k
    each (t ∷ ts) (v ∷ vs) (w ∷ ws) h k =
        let e = All-head (λ v. v ≡ u) v vs h in
        let m = each ts vs ws (All-tail (λ v. v ≡ u) v vs h) k.1 in
        cc (e, m)

pub filled_all : (u : WgslType) (ts : List WgslType) → AreAll u (fill_all (wholes ts) u)
filled_all u [] = All-nil (λ v. v ≡ u)
filled_all u (t ∷ ts) = All-cons (λ v. v ≡ u) u (fill_all (wholes ts) u) refl (filled_all u ts)

pub filled_length : (u : WgslType) (ts : List WgslType) → length (fill_all (wholes ts) u) ≡ length ts
filled_length u [] = refl
filled_length u (t ∷ ts) = omega (arith, filled_length u ts)

pub taken_received : (u : WgslType) (ts : List WgslType) → Takes (fill_all (wholes ts) u) ts → Receives u ts
taken_received u ts k = each ts k.0 k.1
  where
    each : (ts : List WgslType) (ws : List ℕ) → HasRanks ts (fill_all (wholes ts) u) ws → Receives u ts
    each [] ws k = receives_nil u
    each (t ∷ ts) [] k = absurd k
    each (t ∷ ts) (w ∷ ws) k = receives_cons u t ts (w, k.0) (each ts ws k.1)

pub received_taken : (u : WgslType) (ts : List WgslType) → All IsValueType ts → Receives u ts → Takes (fill_all (wholes ts) u) ts
received_taken u ts vs g = puts_taken (wholes ts) u ts ts (whole_put ts) vs g

pub taken_by_none : (us : List WgslType) → Takes us [] → us ≡ []
taken_by_none [] k = refl
taken_by_none (u ∷ us) k = absurd k.1

-- Arrays without a template

elements_taken : (ts us : List WgslType) (r : WgslType) → IsArrayCandidate None us r → Takes us ts → IsMember (wholes ts) (λ c. array (Some (length ts)) c) us r
elements_taken ts us r (array_elements t xs n h) k =
    let e = taken_all t ts xs h k in
    record { at = t; parameters = e; result = ap (λ n. array (Some n) t) (ap length e ∙ filled_length t ts) }

array_at : (a : WgslType) (ts : List WgslType) (c : WgslType) → All IsValueType (a ∷ ts) → IsLeftCommon (a ∷ ts) (Some c) →
    IsLeastMade (IsArrayCandidate None) (a ∷ ts) (Ok (array (Some (length (a ∷ ts))) c))
array_at a ts c vs h =
    let us = fill_all (wholes (a ∷ ts)) c in
    let C = IsArrayCandidate None in
    least_made C (a ∷ ts) us (array (Some (length (a ∷ ts))) c)
    (least_member C (wholes (a ∷ ts)) (λ c. array (Some (length (a ∷ ts))) c) (a ∷ ts) (a ∷ ts) c tt vs vs (whole_put (a ∷ ts)) h (elements_taken (a ∷ ts))
    (subst (λ n. C us (array (Some n) c)) (filled_length c (a ∷ ts)) (array_elements c us (λ e. cc e) (filled_all c (a ∷ ts)))))

no_elements : (e : Refusal) → IsLeastMade (IsArrayCandidate None) [] (Err e)
no_elements e = none_made (IsArrayCandidate None) [] e (λ us t q k. against us t q k)
  where
    against : (us : List WgslType) (t : WgslType) → IsArrayCandidate None us t → Takes us [] → ⊥
    against us t (array_elements u xs n h) k = n (taken_by_none xs k)

uncommon_elements : (a : WgslType) (ts : List WgslType) (e : Refusal) → All IsValueType (a ∷ ts) → IsLeftCommon (a ∷ ts) None → IsLeastMade (IsArrayCandidate None) (a ∷ ts) (Err e)
uncommon_elements a ts e vs h =
    none_made (IsArrayCandidate None) (a ∷ ts) e
    (no_member (IsArrayCandidate None) (wholes (a ∷ ts)) (λ c. array (Some (length (a ∷ ts))) c) (a ∷ ts) (a ∷ ts) tt vs vs (whole_put (a ∷ ts)) h (elements_taken (a ∷ ts)))

untyped_array : (ts : List WgslType) (r : Result WgslType Refusal) → All IsValueType ts → IsArrayCall None ts r → IsLeastMade (IsArrayCandidate None) ts r
untyped_array [] r vs h = none h.0 ((folded [] h.0).0 h.1) h.2
  where
    none : (c : Option WgslType) → c ≡ None → Then (ok_or c (builtin (codes "array elements are incompatible"))) (λ c q. q ≡ Ok (array (Some 0) c)) r →
        IsLeastMade (IsArrayCandidate None) [] r
    none None e k = subst (λ r. IsLeastMade (IsArrayCandidate None) [] r) (sym k) (no_elements _)
    none (Some c) e k = absurd (cc e)
untyped_array (a ∷ ts) r vs h = by_common h.0 h.1 h.2
  where
    by_common : (c : Option WgslType) → IsLeftCommon (a ∷ ts) c →
        Then (ok_or c (builtin (codes "array elements are incompatible"))) (λ c q. q ≡ Ok (array (Some (length (a ∷ ts))) c)) r → IsLeastMade (IsArrayCandidate None) (a ∷ ts) r
    by_common (Some c) m k = subst (λ r. IsLeastMade (IsArrayCandidate None) (a ∷ ts) r) (sym k) (array_at a ts c vs m)
    by_common None m k = subst (λ r. IsLeastMade (IsArrayCandidate None) (a ∷ ts) r) (sym k) (uncommon_elements a ts _ vs m)

-- Arrays with a template

abbrev Typed : List Parameter → List WgslType → WgslType → Type 0
Typed ps = IsArrayCandidate (Some ps)

none_stuck : (t : WgslType) (us : List WgslType) (a : WgslType) → IsFirstStuck t us a → ¬ Receives t us
none_stuck t [] a h g = h
none_stuck t (u ∷ us) a (inl h) g = h.0 (receives_head t u us g)
none_stuck t (u ∷ us) a (inr h) g = none_stuck t us a h.1 (receives_tail t u us g)

typed_zero : (ps : List Parameter) (t : WgslType) → array_template ps ≡ Ok t → IsLeastMade (Typed ps) [] (Ok t)
typed_zero ps t h = least_made (Typed ps) [] [] t (only_one (Typed ps) [] [] t (typed_array_zero ps t h) ([], tt) only)
  where
    only : (vs : List WgslType) (s : WgslType) → Typed ps vs s → Takes vs [] → (vs ≡ []) × (s ≡ t)
    only vs s (typed_array_zero ps' u e) k = let q : Ok u ≡ Ok t = sym e ∙ h in (refl, cc q)
    only vs s (typed_array_elements ps' n u xs e m) k = let q : Ok (array (Some n) u) ≡ Ok t = sym e ∙ h in (taken_by_none xs k, cc q)

-- arguments are only taken by parameters of the element type of an array with a count
elements_of : (ps : List Parameter) (a : WgslType) (ts us : List WgslType) (r : WgslType) → Typed ps us r → Takes us (a ∷ ts) →
    (n : ℕ) × (t : WgslType) × (array_template ps ≡ Ok (array (Some n) t)) × (r ≡ array (Some n) t) × (us ≡ fill_all (wholes (a ∷ ts)) t)
elements_of ps a ts us r (typed_array_zero ps' u e) k = absurd k.1
elements_of ps a ts us r (typed_array_elements ps' n u xs e m) k = (n, u, e, refl, taken_all u (a ∷ ts) xs m k)

typed_elements : (ps : List Parameter) (n : ℕ) (t a : WgslType) (ts : List WgslType) → All IsValueType (a ∷ ts) → array_template ps ≡ Ok (array (Some n) t) → Receives t (a ∷ ts) →
    IsLeastMade (Typed ps) (a ∷ ts) (Ok (array (Some n) t))
typed_elements ps n t a ts vs h g =
    let us = fill_all (wholes (a ∷ ts)) t in
    least_made (Typed ps) (a ∷ ts) us (array (Some n) t)
    (only_one (Typed ps) (a ∷ ts) us (array (Some n) t) (typed_array_elements ps n t us h (filled_all t (a ∷ ts))) (received_taken t (a ∷ ts) vs g) only)
  where
    only : (vs : List WgslType) (s : WgslType) → Typed ps vs s → Takes vs (a ∷ ts) → (vs ≡ fill_all (wholes (a ∷ ts)) t) × (s ≡ array (Some n) t)
    only vs s q k =
        let j = elements_of ps a ts vs s q k in
        let e : Ok (array (Some j.0) j.1) ≡ Ok (array (Some n) t) = sym j.2 ∙ h in
        let p : array (Some j.0) j.1 ≡ array (Some n) t = cc e in
        let u : j.1 ≡ t = cc p in
        (j.4 ∙ ap (λ t. fill_all (wholes (a ∷ ts)) t) u, j.3 ∙ p)

refused_elements : (ps : List Parameter) (t a : WgslType) (ts : List WgslType) (e : Refusal) → array_template ps ≡ Ok t →
    ((n : ℕ) (u : WgslType) → t ≡ array (Some n) u → ¬ Receives u (a ∷ ts)) → IsLeastMade (Typed ps) (a ∷ ts) (Err e)
refused_elements ps t a ts e h f = none_made (Typed ps) (a ∷ ts) e (λ us r q k.
    let j = elements_of ps a ts us r q k in
    let p : Ok t ≡ Ok (array (Some j.0) j.1) = sym h ∙ j.2 in
    f j.0 j.1 (cc p) (taken_received j.1 (a ∷ ts) (subst (λ us. Takes us (a ∷ ts)) j.4 k)))

typed_array : (ps : List Parameter) (t : WgslType) (ts : List WgslType) (r : Result WgslType Refusal) → All IsValueType ts → array_template ps ≡ Ok t →
    IsTypedArray ts t r → IsLeastMade (Typed ps) ts r
typed_array ps t [] r vs h k = subst (λ r. IsLeastMade (Typed ps) [] r) (sym k) (typed_zero ps t h)
typed_array ps (within (array_of (Some n)) t) (a ∷ ts) r vs h (inl k) =
    subst (λ r. IsLeastMade (Typed ps) (a ∷ ts) r) (sym k.1) (typed_elements ps n t a ts vs h k.0)
typed_array ps (within (array_of (Some n)) t) (a ∷ ts) r vs h (inr k) =
    subst (λ r. IsLeastMade (Typed ps) (a ∷ ts) r) (sym k.2)
    (refused_elements ps (array (Some n) t) a ts _ h (λ m u e g. let p : u ≡ t = cc e in none_stuck t (a ∷ ts) k.0 k.1 (subst (λ u. Receives u (a ∷ ts)) p g)))
typed_array ps t (a ∷ ts) r vs h k =
    subst (λ r. IsLeastMade (Typed ps) (a ∷ ts) r) (sym k) (refused_elements ps t a ts _ h (λ m u e g. cc e))

refused_template : (ps : List Parameter) (ts : List WgslType) (e : Refusal) → array_template ps ≡ Err e → IsLeastMade (Typed ps) ts (Err e)
refused_template ps ts e h = none_made (Typed ps) ts e (λ us t q k. against us t q)
  where
    against : (us : List WgslType) (t : WgslType) → Typed ps us t → ⊥
    against us t (typed_array_zero ps' u k) = cc (h, k)
    against us t (typed_array_elements ps' n u xs k m) = cc (h, k)

pub array_call : (template : Option (List Parameter)) (ts : List WgslType) (r : Result WgslType Refusal) → All IsValueType ts → IsArrayCall template ts r →
    IsLeastMade (IsArrayCandidate template) ts r
array_call None ts r vs h = untyped_array ts r vs h
array_call (Some ps) ts r vs h = by_template (array_template ps) refl h
  where
    by_template : (q : Result WgslType Refusal) → array_template ps ≡ q → Then q (IsTypedArray ts) r → IsLeastMade (Typed ps) ts r
    by_template (Ok t) e k = typed_array ps t ts r vs e k
    by_template (Err x) e k = subst (λ r. IsLeastMade (Typed ps) ts r) (sym k) (refused_template ps ts x e)
