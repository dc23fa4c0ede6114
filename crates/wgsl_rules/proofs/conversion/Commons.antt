-- Common types of two types and of lists.
use Rattle.std.proofs.Common.{◌≡◌, List, [], ◌∷◌, Option, Some, None, All, IsPermutation, refl, sym, ◌∙◌, ap, subst, inl, inr, arith}
use Rattle.wgsl_rules.proofs.Common.{All-nil, All-cons, All-head, All-tail, WgslType, IsValueType, ConvertsTo, IsCommon, IsLeftCommon, of_no_types, Receives, IsLeastCommon}
use Rattle.std.proofs.lemmas.List.Sorted.{All-permutation, length_permutation, IsPermutation-sym}
use Rattle.wgsl_rules.proofs.conversion.Folds.{IsFoldedFrom, IsFolded, folded}
use Rattle.wgsl_rules.proofs.conversion.Order.{Above, here, above_trans, above_chain, above_values, above_converts, value_converts, dec_converts, converts_antisym}

-- of two types

pub common_symmetric : (a b : WgslType) (r : Option WgslType) → IsCommon a b r → IsCommon b a r
common_symmetric a b None h = (h.1, h.0)
common_symmetric a b (Some c) (inl p) =
    elim (dec_converts b a) [
      | yes q ↦ inl (q, p.1 ∙ converts_antisym q p.0)
      | no n ↦ inr (n, p.0, p.1)
    ]
common_symmetric a b (Some c) (inr p) = inl (p.1, p.2)

pub common_once : (a b : WgslType) (r s : Option WgslType) → IsCommon a b r → IsCommon a b s → r ≡ s
common_once a b None None h k = refl
common_once a b None (Some d) h (inl k) = absurd (h.0 k.0)
common_once a b None (Some d) h (inr k) = absurd (h.1 k.1)
common_once a b (Some c) None (inl h) k = absurd (k.0 h.0)
common_once a b (Some c) None (inr h) k = absurd (k.1 h.1)
common_once a b (Some c) (Some d) (inl h) (inl k) = ap Some (h.1 ∙ sym k.1)
common_once a b (Some c) (Some d) (inl h) (inr k) = absurd (k.0 h.0)
common_once a b (Some c) (Some d) (inr h) (inl k) = absurd (h.0 k.0)
common_once a b (Some c) (Some d) (inr h) (inr k) = ap Some (h.2 ∙ sym k.2)

pub some_common : (a b : WgslType) → (r : Option WgslType) × IsCommon a b r
some_common a b =
    elim (dec_converts a b) [
      | yes p ↦ (Some b, inl (p, refl))
      | no n ↦ elim (dec_converts b a) [
        | yes q ↦ (Some a, inr (n, q, refl))
        | no m ↦ (None, (n, m))
      ]
    ]

pub value_above : {t u : WgslType} → IsValueType t → ConvertsTo t u → Above t u
value_above v h = (value_converts v h.1).0

-- the least type to which both convert
pub record IsJoin (a b c : WgslType) : Type 0 where
  pub left : Above a c
  pub right : Above b c
  pub least : (v : WgslType) → Above a v → Above b v → Above c v

pub common_join : (a b c : WgslType) → IsValueType a → IsValueType b → IsCommon a b (Some c) → IsJoin a b c
common_join a b c va vb (inl p) =
    subst (λ c. IsJoin a b c) (sym p.1) (record { left = value_above va p.0; right = here; least = λ v s t. t })
common_join a b c va vb (inr p) =
    subst (λ c. IsJoin a b c) (sym p.2) (record { left = here; right = value_above vb p.1; least = λ v s t. s })

pub no_common : (a b : WgslType) → IsCommon a b None → (v : WgslType) → Above a v → Above b v → ⊥
no_common a b h v s t =
    elim (above_chain s t) [
      | inl p ↦ h.0 (above_converts p)
      | inr p ↦ h.1 (above_converts p)
    ]

-- of lists

pub receives_nil : (u : WgslType) → Receives u []
receives_nil u = All-nil (λ t. ConvertsTo t u)

pub receives_cons : (u t : WgslType) (ts : List WgslType) → ConvertsTo t u → Receives u ts → Receives u (t ∷ ts)
receives_cons u = All-cons (λ t. ConvertsTo t u)

pub receives_head : (u t : WgslType) (ts : List WgslType) → Receives u (t ∷ ts) → ConvertsTo t u
receives_head u = All-head (λ t. ConvertsTo t u)

pub receives_tail : (u t : WgslType) (ts : List WgslType) → Receives u (t ∷ ts) → Receives u ts
receives_tail u = All-tail (λ t. ConvertsTo t u)

pub values_head : (t : WgslType) (ts : List WgslType) → All IsValueType (t ∷ ts) → IsValueType t
values_head = All-head IsValueType

pub values_tail : (t : WgslType) (ts : List WgslType) → All IsValueType (t ∷ ts) → All IsValueType ts
values_tail = All-tail IsValueType

abbrev pub LeastFrom : WgslType → List WgslType → Option WgslType → Type 0
LeastFrom c ts (Some u) = Above c u × Receives u ts × ((v : WgslType) → Above c v → Receives v ts → Above u v)
LeastFrom c ts None = (v : WgslType) → Above c v → Receives v ts → ⊥

fold_from_none : (ts : List WgslType) (r : Option WgslType) → IsFoldedFrom None ts r → r ≡ None
fold_from_none [] r h = sym h
fold_from_none (t ∷ ts) r h = h

least_past : (c t e : WgslType) (ts : List WgslType) (r : Option WgslType) → IsValueType t → IsJoin c t e → LeastFrom e ts r → LeastFrom c (t ∷ ts) r
least_past c t e ts None vt j h = λ v s g. h v (j.least v s (value_above vt (receives_head v t ts g))) (receives_tail v t ts g)
least_past c t e ts (Some u) vt j h = (
  above_trans j.left h.0,
  receives_cons u t ts (above_converts (above_trans j.right h.0)) h.1,
  λ v s g. h.2 v (j.least v s (value_above vt (receives_head v t ts g))) (receives_tail v t ts g),
)

none_past : (c t : WgslType) (ts : List WgslType) → IsValueType t → IsCommon c t None → LeastFrom c (t ∷ ts) None
none_past c t ts vt k = λ v s g. no_common c t k v s (value_above vt (receives_head v t ts g))

least_fold : (c : WgslType) (ts : List WgslType) (r : Option WgslType) → IsValueType c → All IsValueType ts → IsFoldedFrom (Some c) ts r → LeastFrom c ts r
least_fold c [] r vc vs h = subst (λ r. LeastFrom c [] r) h (here, receives_nil c, λ v s g. s)
least_fold c (t ∷ ts) r vc vs h = go h.0 h.1 h.2 (λ e ve m. least_fold e ts r ve (values_tail t ts vs) m)
  where
    go : (d : Option WgslType) → IsCommon c t d → IsFoldedFrom d ts r →
        ((e : WgslType) → IsValueType e → IsFoldedFrom (Some e) ts r → LeastFrom e ts r) → LeastFrom c (t ∷ ts) r
    go None k m ih = subst (λ r. LeastFrom c (t ∷ ts) r) (sym (fold_from_none ts r m)) (none_past c t ts (values_head t ts vs) k)
    go (Some e) k m ih =
        let j = common_join c t e vc (values_head t ts vs) k in
        least_past c t e ts r (values_head t ts vs) j (ih e ((above_values j.left).0 vc) m)

some_fold : (c : Option WgslType) (ts : List WgslType) → (r : Option WgslType) × IsFoldedFrom c ts r
some_fold c [] = (c, refl)
some_fold None (t ∷ ts) = (None, refl)
some_fold (Some c) (t ∷ ts) =
    let k = some_common c t in
    let m = some_fold k.0 ts in
    (m.0, (k.0, k.1, m.1))

pub some_left_common : (ts : List WgslType) → (r : Option WgslType) × IsLeftCommon ts r
some_left_common [] = (None, of_no_types)
some_left_common (t ∷ ts) = let k = some_fold (Some t) ts in (k.0, (folded (t ∷ ts) k.0).1 k.1)

fold_once : (c : Option WgslType) (ts : List WgslType) (r s : Option WgslType) → IsFoldedFrom c ts r → IsFoldedFrom c ts s → r ≡ s
fold_once c [] r s h k = sym h ∙ k
fold_once None (t ∷ ts) r s h k = h ∙ sym k
fold_once (Some c) (t ∷ ts) r s h k =
    fold_once h.0 ts r s h.2 (subst (λ d. IsFoldedFrom d ts s) (common_once c t k.0 h.0 k.1 h.1) k.2)

pub left_common_once : (ts : List WgslType) (r s : Option WgslType) → IsLeftCommon ts r → IsLeftCommon ts s → r ≡ s
left_common_once ts r s h k = once ts ((folded ts r).0 h) ((folded ts s).0 k)
  where
    once : (ts : List WgslType) → IsFolded ts r → IsFolded ts s → r ≡ s
    once [] h k = h ∙ sym k
    once (t ∷ ts) h k = fold_once (Some t) ts r s h k

-- the common type from left to right is the least common type, and None if there is none
pub left_common_least : (ts : List WgslType) (u : WgslType) → All IsValueType ts → IsLeftCommon ts (Some u) → IsLeastCommon u ts
left_common_least [] u vs h = absurd (no_none ((folded [] (Some u)).0 h))
  where
    no_none : Some u ≡ None → ⊥
    no_none e = cc e
left_common_least (t ∷ ts) u vs h =
    let vt = values_head t ts vs in
    let k = least_fold t ts (Some u) vt (values_tail t ts vs) ((folded (t ∷ ts) (Some u)).0 h) in (
      receives_cons u t ts (above_converts k.0) k.1,
      λ v g. above_converts (k.2 v (value_above vt (receives_head v t ts g)) (receives_tail v t ts g)),
    )

pub left_common_none : (t : WgslType) (ts : List WgslType) → All IsValueType (t ∷ ts) → IsLeftCommon (t ∷ ts) None → (v : WgslType) → ¬ Receives v (t ∷ ts)
left_common_none t ts vs h v g =
    let vt = values_head t ts vs in
    least_fold t ts None vt (values_tail t ts vs) ((folded (t ∷ ts) None).0 h) v (value_above vt (receives_head v t ts g)) (receives_tail v t ts g)

pub least_common_once : (ts : List WgslType) (u v : WgslType) → IsLeastCommon u ts → IsLeastCommon v ts → u ≡ v
least_common_once ts u v h k = converts_antisym (h.1 v k.0) (k.1 u h.0)

pub receives_permuted : (u : WgslType) (ts us : List WgslType) → IsPermutation ts us → Receives u ts → Receives u us
receives_permuted u = All-permutation (λ t. ConvertsTo t u)

pub least_permuted : (u : WgslType) (ts us : List WgslType) → IsPermutation ts us → IsLeastCommon u ts → IsLeastCommon u us
least_permuted u ts us p h = (
  receives_permuted u ts us p h.0,
  λ v g. h.1 v (receives_permuted v us ts (IsPermutation-sym ts us p) g),
)

pub common_any_order_lem : (ts us : List WgslType) (r s : Option WgslType) → IsPermutation ts us → All IsValueType ts →
    IsLeftCommon ts r → IsLeftCommon us s → r ≡ s
common_any_order_lem [] [] r s p vs h k = left_common_once [] r s h k
common_any_order_lem [] (u ∷ us) r s p vs h k = absurd (omega (arith, length_permutation [] (u ∷ us) p))
common_any_order_lem (t ∷ ts) [] r s p vs h k = absurd (omega (arith, length_permutation (t ∷ ts) [] p))
common_any_order_lem (t ∷ ts) (u ∷ us) None None p vs h k = refl
common_any_order_lem (t ∷ ts) (u ∷ us) None (Some c) p vs h k =
    absurd (left_common_none t ts vs h c (receives_permuted c (u ∷ us) (t ∷ ts) (IsPermutation-sym _ _ p) (left_common_least (u ∷ us) c (All-permutation IsValueType (t ∷ ts) (u ∷ us) p vs) k).0))
common_any_order_lem (t ∷ ts) (u ∷ us) (Some c) None p vs h k =
    absurd (left_common_none u us (All-permutation IsValueType (t ∷ ts) (u ∷ us) p vs) k c (receives_permuted c (t ∷ ts) (u ∷ us) p (left_common_least (t ∷ ts) c vs h).0))
common_any_order_lem (t ∷ ts) (u ∷ us) (Some c) (Some d) p vs h k =
    let a = left_common_least (t ∷ ts) c vs h in
    let b = left_common_least (u ∷ us) d (All-permutation IsValueType (t ∷ ts) (u ∷ us) p vs) k in
    ap Some (least_common_once (t ∷ ts) c d a (least_permuted d (u ∷ us) (t ∷ ts) (IsPermutation-sym (t ∷ ts) (u ∷ us) p) b))
