-- Common types of the types that an iterator gave.
use Rattle.std.proofs.Common.{List, [], ◌∷◌, ◌++◌, ◌≡◌, map, Option, Some, refl, sym, ap, subst, Bor}
use Rattle.wgsl_core.proofs.Common.{WgslType, IsCommon, IsFoldedFrom, fold_more, view, «Type»}

abbrev pub seen : List (Bor «Type») → List WgslType
seen = map (λ t. view t.now)

map_last : (ts : List (Bor «Type»)) (t : Bor «Type») → seen (ts ++ t ∷ []) ≡ seen ts ++ view t.now ∷ []
map_last [] t = refl
map_last (u ∷ ts) t = ap (λ us. view u.now ∷ us) (map_last ts t)

pub one_more_given : (c : Option WgslType) (ts : List (Bor «Type»)) (t : Bor «Type») (d : WgslType) (r : Option WgslType) →
    IsFoldedFrom c (seen ts) (Some d) → IsCommon d (view t.now) r → IsFoldedFrom c (seen (ts ++ t ∷ [])) r
one_more_given c ts t d r h k = subst (λ us. IsFoldedFrom c us r) (sym (map_last ts t)) (fold_more c (seen ts) (Some d) (view t.now) r h k)
