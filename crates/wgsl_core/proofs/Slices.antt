-- The common type of the types in a slice.
use Rattle.std.proofs.Common.{◌≡◌, ◌≢◌, ◌⊎◌, List, [], ◌∷◌, ◌++◌, length, take, drop, map, Option, Some, None, IsSome, option_map, refl, sym, ap, ◌∙◌, subst, inl, inr, take-append-drop, Bor}
use Rattle.wgsl_core.proofs.Common.{map-append, DrainsIf, WgslType, IsCommonOfList, IsCommonOfGiven, view, «Type»}
use Rattle.std.proofs.lemmas.Iterator.{YieldsList, YieldsList-from_slice, items_from_drains}
use Rattle.std.proofs.lemmas.Iterator.Consumers.{YieldsList-so_far}
use Rattle.std.proofs.iter.Yields.{fronts}
use Rattle.std.specs.Slice.Iter.{iter_rest}
use Rattle.std.specs.declared.slice.Iter.{Iter}
use Rattle.wgsl_core.proofs.Lists.{seen}

abbrev now_of : List (Bor «Type») → List «Type»
now_of = map (λ y. y.now)

seen_now : (given : List (Bor «Type»)) → seen given ≡ map view (now_of given)
seen_now [] = refl
seen_now (t ∷ ts) = ap (λ us. view t.now ∷ us) (seen_now ts)

abbrev answer : Option (Bor «Type») → Option WgslType
answer = option_map (λ t. view t.now)

abbrev Stops : Iter «Type» → Option (Bor «Type») → List (Bor «Type») → Type 0
Stops s r given = DrainsIf fronts (IsSome r ⊎ (given ≡ [])) s given

whole : (s : Iter «Type») (all : List «Type») (r : Option (Bor «Type»)) (given : List (Bor «Type»)) → YieldsList fronts (λ y. y.now) s all → Stops s r given →
    (IsSome r ⊎ (given ≡ [])) → IsCommonOfGiven (seen given) (answer r) → IsCommonOfList (map view all) (answer r)
whole s all r given e d w c =
    subst (λ us. IsCommonOfList us (answer r)) (seen_now given ∙ ap (map view) (items_from_drains given (d.0, d.1, λ u. d.2 w) e)) c.given

pub common_of_slice : (s : Iter «Type») (all : List «Type») (r : Option (Bor «Type»)) (given : List (Bor «Type»)) → iter_rest s ≡ all → Stops s r given →
    IsCommonOfGiven (seen given) (answer r) → IsCommonOfList (map view all) (answer r)
common_of_slice s all (Some t) given p d c = whole s all (Some t) given (YieldsList-from_slice {s = s} all p) d (inl refl) c
common_of_slice s all None [] p d c = whole s all None [] (YieldsList-from_slice {s = s} all p) d (inr refl) c
common_of_slice s all None (t ∷ ts) p d c =
    let so_far : now_of (t ∷ ts) ≡ take (length (t ∷ ts)) all = YieldsList-so_far (YieldsList-from_slice {s = s} all p) (t ∷ ts) d.0 d.1 in
    let n = length (t ∷ ts) in
    let not_empty : seen (t ∷ ts) ≢ [] = λ e. absurd (cc e) in
    let split : seen (t ∷ ts) ++ map view (drop n all) ≡ map view all =
    ap (λ us. us ++ map view (drop n all)) (seen_now (t ∷ ts) ∙ ap (map view) so_far)
    ∙ (sym (map-append view (take n all) (drop n all)) ∙ ap (map view) (take-append-drop n all)) in
    subst (λ us. IsCommonOfList us None) split (c.whatever_follows not_empty refl (map view (drop n all)))
