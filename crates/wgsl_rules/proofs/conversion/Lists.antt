-- Common types of lists, one type after another.
use Rattle.std.proofs.Common.{◌≡◌, ◌≢◌, ◌⊎◌, List, [], ◌∷◌, ◌++◌, Option, Some, None, refl, sym, subst, inl, inr}
use Rattle.wgsl_rules.proofs.Common.{WgslType, IsLeftCommon, LeftCommonIsLeast, Receives, IsLeastCommon, IsLeastCommonAnswer}
use Rattle.wgsl_rules.specs.conversion.Lists.{IsCommonOfList, IsCommonOfGiven}
use Rattle.wgsl_rules.proofs.conversion.Folds.{IsFolded, folded, none_follows}
use Rattle.wgsl_rules.proofs.conversion.Commons.{least_permuted}
use Rattle.wgsl_rules.proofs.Laws.{left_is_least}

-- The common type from left to right

least_is_given : (ts : List WgslType) (r : Option WgslType) → IsLeftCommon ts r → LeftCommonIsLeast ts → IsLeastCommonAnswer ts r
least_is_given ts r h l = record { some = λ u. (some_to u, λ p. l.one r (Some u) h (l.least_is_left p.0 u p.1)); none = (none_to ts r h l, none_from ts r h l); any_order = λ us u p e. least_permuted u ts us p (some_to u e).1 }
  where
    not_empty : (ts : List WgslType) (u : WgslType) → IsLeftCommon ts (Some u) → ts ≢ []
    not_empty [] u h e = absurd (cc ((folded [] (Some u)).0 h))
    not_empty (t ∷ ts) u h e = absurd (cc e)

    some_to : (u : WgslType) → r ≡ Some u → (ts ≢ []) × IsLeastCommon u ts
    some_to u e = let k = subst (λ r. IsLeftCommon ts r) e h in (not_empty ts u k, l.some u k)

    none_to : (ts : List WgslType) (r : Option WgslType) → IsLeftCommon ts r → LeftCommonIsLeast ts → r ≡ None →
        (ts ≡ []) ⊎ ((u : WgslType) → ¬ Receives u ts)
    none_to [] r h l e = inl refl
    none_to (t ∷ ts) r h l e = inr (l.none (λ q. absurd (cc q)) (subst (λ r. IsLeftCommon (t ∷ ts) r) e h))

    none_from : (ts : List WgslType) (r : Option WgslType) → IsLeftCommon ts r → LeftCommonIsLeast ts →
        (ts ≡ []) ⊎ ((u : WgslType) → ¬ Receives u ts) → r ≡ None
    none_from ts None h l p = refl
    none_from ts (Some u) h l (inl e) = absurd (not_empty ts u h e)
    none_from ts (Some u) h l (inr n) = absurd (n u (l.some u h).0)

pub common_of_list : (ts : List WgslType) (r : Option WgslType) → IsLeftCommon ts r → IsCommonOfList ts r
common_of_list ts r h = record { left = h; least = λ vs. least_is_given ts r h (left_is_least ts vs) }

-- A list without a common type, and the lists that begin with it

pub common_of_given : (ts : List WgslType) (r : Option WgslType) → IsFolded ts r → IsCommonOfGiven ts r
common_of_given ts r h = record { given = common_of_list ts r ((folded ts r).1 h); whatever_follows = follows ts r h }
  where
    follows : (ts : List WgslType) (r : Option WgslType) → IsFolded ts r → ts ≢ [] → r ≡ None → (more : List WgslType) → IsCommonOfList (ts ++ more) r
    follows [] r h n e more = absurd (n refl)
    follows (t ∷ ts) r h n e more =
        subst (λ r. IsCommonOfList (t ∷ ts ++ more) r) (sym e)
        (common_of_list (t ∷ (ts ++ more)) None ((folded (t ∷ (ts ++ more)) None).1 (none_follows (Some t) ts more (subst (λ r. IsFolded (t ∷ ts) r) e h))))
