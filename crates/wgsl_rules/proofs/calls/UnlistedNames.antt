-- A name that is not in the list has no rows.
use Rattle.std.proofs.Common.{ℕ, suc, ◌≡◌, ◌<◌, ◌&&◌, ◌||◌, List, [], ◌∷◌, length, get_or, map, Bool, true, false, refl, sym, ap, ◌∙◌, arith, true≢false, bytes_eq}
use Rattle.std.specs.List.{list_any, list_all}
use Rattle.std.proofs.lemmas.Slice.Eq.{bytes_eq-Decides}
use Rattle.std.proofs.lemmas.List as lists
use Rattle.std.proofs.lemmas.List.{length-map}
use Rattle.wgsl_rules.proofs.Common.{IsNameAt, call_names, Row, call_table, Line, rows_named}

either : (a b : Bool) → a ≡ false → b ≡ false → (a || b) ≡ false
either true b h k = absurd (true≢false h)
either false b h k = k

both : (a b : Bool) → (a && b) ≡ true → (a ≡ true) × (b ≡ true)
both true true h = (refl, refl)
both true false h = absurd (true≢false (sym h))
both false b h = absurd (true≢false (sym h))

-- a test that can't be true is false
never : (b : Bool) → (b ≡ true → ⊥) → b ≡ false
never true h = absurd (h refl)
never false h = refl

unlisted : (ns : List (List ℕ)) (name : List ℕ) → ((i : ℕ) → IsNameAt ns i name → ⊥) → list_any (bytes_eq name) ns ≡ false
unlisted [] name h = refl
unlisted (n ∷ ns) name h =
    either (bytes_eq name n) (list_any (bytes_eq name) ns)
    (never (bytes_eq name n) (λ e. h 0 (omega arith, sym ((bytes_eq-Decides name n).0 e))))
    (unlisted ns name (λ i p. h (suc i) (omega (arith, p.0), p.1)))

abbrev is_known : List ℕ → Bool
is_known w = list_any (bytes_eq w) call_names

no_word : (ws : List (List ℕ)) (name : List ℕ) → is_known name ≡ false → list_all is_known ws ≡ true → list_any (bytes_eq name) ws ≡ false
no_word [] name h k = refl
no_word (w ∷ ws) name h k =
    let p = both (is_known w) (list_all is_known ws) k in
    either (bytes_eq name w) (list_any (bytes_eq name) ws)
    (never (bytes_eq name w) (λ e. true≢false (sym p.0 ∙ (ap is_known (sym ((bytes_eq-Decides name w).0 e)) ∙ h))))
    (no_word ws name h p.1)

abbrev all_known : List Line → Bool
all_known ls = list_all (λ l. list_all is_known l.names) ls

computed : all_known call_table ≡ true
unfolding call_names call_table
computed = refl

no_rows : (ls : List Line) (name : List ℕ) → is_known name ≡ false → all_known ls ≡ true → rows_named name ls ≡ []
no_rows [] name h k = refl
no_rows (l ∷ ls) name h k =
    let p = both (list_all is_known l.names) (all_known ls) k in
    rw (no_word l.names name h p.0) (no_rows ls name h p.1)

pub nameless : (name : List ℕ) → ((i : ℕ) → IsNameAt call_names i name → ⊥) → rows_named name call_table ≡ []
nameless name h = no_rows call_table name (unlisted call_names name h) computed

-- the rows at an index are those of the name there
pub rows_at : {X : Type 0} (f : X → List Row) (xs : List X) (name : List ℕ) (k : ℕ) (d : X) → map f xs ≡ map (λ n. rows_named n call_table) call_names → k < length xs → IsNameAt call_names k name → f (get_or xs k d) ≡ rows_named name call_table
rows_at f xs name k d e b at =
    sym (lists.get_or-map f xs k d [] b) ∙ (ap (λ l. get_or l k []) e ∙ (lists.get_or-map (λ n. rows_named n call_table) call_names k [] [] at.0 ∙ ap (λ n. rows_named n call_table) at.1))
