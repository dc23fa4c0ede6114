-- The left common type as a fold from the front, as code reads a list.
use Rattle.std.proofs.Common.{◌≡◌, ◌≢◌, ◌↔◌, List, [], ◌∷◌, ◌++◌, Option, Some, None, refl, sym, subst, append-nil, append_assoc}
use Rattle.wgsl_rules.proofs.Common.{WgslType, IsCommon, IsCommonWith, IsLeftCommon, of_no_types, of_one_type, of_last_member}

-- the common type so far, combined with each type of the list in turn
abbrev pub IsFoldedFrom : Option WgslType → List WgslType → Option WgslType → Type 0
IsFoldedFrom c [] r = c ≡ r
IsFoldedFrom None (t ∷ ts) r = r ≡ None
IsFoldedFrom (Some c) (t ∷ ts) r = (d : Option WgslType) × IsCommon c t d × IsFoldedFrom d ts r

abbrev pub IsFolded : List WgslType → Option WgslType → Type 0
IsFolded [] r = r ≡ None
IsFolded (t ∷ ts) r = IsFoldedFrom (Some t) ts r

-- one more type at the end
pub fold_more : (a : Option WgslType) (ts : List WgslType) (c : Option WgslType) (t : WgslType) (r : Option WgslType) → IsFoldedFrom a ts c → IsCommonWith c t r →
    IsFoldedFrom a (ts ++ t ∷ []) r
fold_more None [] c t r h k = subst (λ c. IsCommonWith c t r) (sym h) k
fold_more (Some a) [] c t r h k = (r, subst (λ c. IsCommonWith c t r) (sym h) k, refl)
fold_more None (u ∷ us) c t r h k = subst (λ c. IsCommonWith c t r) h k
fold_more (Some a) (u ∷ us) c t r h k = (h.0, h.1, fold_more h.0 us c t r h.2 k)

-- without a common type so far there is none in the end
pub none_stays : (ts : List WgslType) → IsFoldedFrom None ts None
none_stays [] = refl
none_stays (t ∷ ts) = refl

pub none_follows : (c : Option WgslType) (ts more : List WgslType) → IsFoldedFrom c ts None → IsFoldedFrom c (ts ++ more) None
none_follows c [] more h = subst (λ c. IsFoldedFrom c more None) (sym h) (none_stays more)
none_follows None (t ∷ ts) more h = refl
none_follows (Some c) (t ∷ ts) more h = (h.0, h.1, none_follows h.0 ts more h.2)

to_fold : {ts : List WgslType} {r : Option WgslType} → IsLeftCommon ts r → IsFolded ts r
to_fold (of_last_member {ts = ts} {c = c} {r = r} t n h k) = longer ts n (to_fold h)
  where
    longer : (ts : List WgslType) → ts ≢ [] → IsFolded ts c → IsFolded (ts ++ t ∷ []) r
    longer [] n f = absurd (n refl)
    longer (u ∷ us) n f = fold_more (Some u) us c t r f k
to_fold _ = refl

not_empty : (ts : List WgslType) (t : WgslType) → ts ++ t ∷ [] ≢ []
not_empty [] t e = absurd (cc e)
not_empty (u ∷ us) t e = absurd (cc e)

from_fold : (front : List WgslType) (c : Option WgslType) (ts : List WgslType) (r : Option WgslType) → front ≢ [] → IsLeftCommon front c → IsFoldedFrom c ts r →
    IsLeftCommon (front ++ ts) r
from_fold front c [] r n h f = subst (λ us. IsLeftCommon us r) (sym (append-nil front)) (subst (λ c. IsLeftCommon front c) f h)
from_fold front None (t ∷ ts) r n h f =
    subst (λ us. IsLeftCommon us r) (append_assoc front (t ∷ []) ts)
    (from_fold (front ++ t ∷ []) None ts r (not_empty front t) (of_last_member t n h refl) (subst (λ r. IsFoldedFrom None ts r) (sym f) (none_stays ts)))
from_fold front (Some c) (t ∷ ts) r n h f =
    subst (λ us. IsLeftCommon us r) (append_assoc front (t ∷ []) ts)
    (from_fold (front ++ t ∷ []) f.0 ts r (not_empty front t) (of_last_member t n h f.1) f.2)

-- the left common type is that of the fold
pub folded : (ts : List WgslType) (r : Option WgslType) → IsLeftCommon ts r ↔ IsFolded ts r
folded ts r = (to_fold, back ts)
  where
    back : (ts : List WgslType) → IsFolded ts r → IsLeftCommon ts r
    back [] f = subst (λ r. IsLeftCommon [] r) (sym f) of_no_types
    back (t ∷ ts) f = from_fold (t ∷ []) (Some t) ts r (λ e. absurd (cc e)) (of_one_type t) f

pub left_of_two : (a b : WgslType) (r : Option WgslType) → IsCommon a b r → IsLeftCommon (a ∷ b ∷ []) r
left_of_two a b r h = of_last_member b (λ e. absurd (cc e)) (of_one_type a) h
