-- A perfect hash finds a name: the list has it at the index that the hash gives, or nowhere.
use Rattle.std.proofs.Common.{ℕ, ◌≡◌, ◌<◌, ◌↔◌, List, [], length, get_or, map, Option, Some, None, sym, ap, ◌∙◌, subst, zero-add}
use Rattle.std.proofs.lemmas.List as lists
use Rattle.std.proofs.lemmas.List.FromFn.{get_or-range_with_len}
use Rattle.wgsl_syntax.specs.declared.hash.Places.{Places}
use Rattle.wgsl_syntax.specs.Hash.{index_of, FindsAll}
use Rattle.wgsl_rules.specs.calls.Names.{IsNameAt, name_at}

pub its_index : (p : Places) (ns : List (List ℕ)) → FindsAll p ns → (i : ℕ) (x : List ℕ) → IsNameAt ns i x → index_of p x ≡ i
its_index p ns h i x at =
    let here : get_or (map (index_of p) ns) i 0 ≡ index_of p x = lists.get_or-map (index_of p) ns i [] 0 at.0 ∙ ap (index_of p) at.1 in
    let there : get_or (map (index_of p) ns) i 0 ≡ i = ap (λ l. get_or l i 0) h ∙ (get_or-range_with_len 0 (length ns) i 0 at.0 ∙ zero-add i) in
    sym here ∙ there

pub found : (p : Places) (ns : List (List ℕ)) → FindsAll p ns → (x : List ℕ) (k : ℕ) → k ≡ index_of p x → IsNameAt ns k x → (i : ℕ) → (Some k ≡ Some i) ↔ IsNameAt ns i x
found p ns h x k e at i = (
  λ s. let same : k ≡ i = cc s in subst (λ j. IsNameAt ns j x) same at,
  λ there. ap Some (e ∙ its_index p ns h i x there),
)

pub not_found : (p : Places) (ns : List (List ℕ)) → FindsAll p ns → (x : List ℕ) (k : ℕ) → k ≡ index_of p x → (IsNameAt ns k x → ⊥) → (i : ℕ) → let r : Option ℕ = None in (r ≡ Some i) ↔ IsNameAt ns i x
not_found p ns h x k e missing i = (
  λ s. cc s,
  λ there. absurd (missing (subst (λ j. IsNameAt ns j x) (sym (e ∙ its_index p ns h i x there)) there)),
)

-- the name of an item of a list with these names
pub named : {X : Type 0} (f : X → List ℕ) (xs : List X) (ns : List (List ℕ)) → map f xs ≡ ns → (k : ℕ) (d : X) → k < length xs → name_at ns k ≡ f (get_or xs k d)
named f xs ns e k d b = ap (λ l. get_or l k []) (sym e) ∙ lists.get_or-map f xs k d [] b
