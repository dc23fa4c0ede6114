-- A perfect hash finds the row of a name.
use Rattle.std.proofs.Common.{ℕ, suc, zero, ◌≡◌, ◌≢◌, ◌<◌, List, [], ◌∷◌, map, length, get_or, Some, None, Bool, true, false, refl, sym, ap, ◌∙◌, subst, arith, bytes_eq, if◌then◌else◌}
use Rattle.std.proofs.lemmas.List as lists
use Rattle.wgsl_standard.proofs.Common.{length-map, bytes_eq-Decides, IsNameAt, names_of, value_named}
use Rattle.wgsl_syntax.specs.declared.hash.Places.{Places}
use Rattle.wgsl_syntax.specs.Hash.{index_of, FindsAll}
use Rattle.wgsl_rules.proofs.calls.FoundNames.{its_index}

not_here : (b : Bool) (x n : List ℕ) → bytes_eq x n ≡ b → x ≢ n → b ≡ false
not_here true x n e d = absurd (d ((bytes_eq-Decides x n).0 e))
not_here false x n e d = refl

past : {A : Type 0} (x : List ℕ) (row : List ℕ × A) (rows : List (List ℕ × A)) → x ≢ row.0 → value_named x (row ∷ rows) ≡ value_named x rows
past x row rows d = ap (λ b. if b then Some row.1 else value_named x rows) (not_here (bytes_eq x row.0) x row.0 refl d)

here : {A : Type 0} (x : List ℕ) (row : List ℕ × A) (rows : List (List ℕ × A)) → x ≡ row.0 → value_named x (row ∷ rows) ≡ Some row.1
here x row rows e = ap (λ b. if b then Some row.1 else value_named x rows) ((bytes_eq-Decides x row.0).1 e)

-- the only row with a name
listed : {A : Type 0} (x : List ℕ) (rows : List (List ℕ × A)) (k : ℕ) (d : List ℕ × A) → k < length rows → (get_or rows k d).0 ≡ x → ((i : ℕ) → IsNameAt (names_of rows) i x → i ≡ k) →
    value_named x rows ≡ Some (get_or rows k d).1
listed x [] k d b e only = absurd (omega (arith, b))
listed x (row ∷ rows) zero d b e only = here x row rows (sym e)
listed x (row ∷ rows) (suc k) d b e only =
    past x row rows (λ h. let first : 0 ≡ suc k = only 0 (omega arith, sym h) in omega (arith, first))
    ∙ listed x rows k d (omega (arith, b)) e (λ i at. let next : suc i ≡ suc k = only (suc i) (omega (arith, at.0), at.1) in omega (arith, next))

unlisted : {A : Type 0} (x : List ℕ) (rows : List (List ℕ × A)) → ((i : ℕ) → IsNameAt (names_of rows) i x → ⊥) → value_named x rows ≡ None
unlisted x [] never = refl
unlisted x (row ∷ rows) never =
    past x row rows (λ h. never 0 (omega arith, sym h))
    ∙ unlisted x rows (λ i at. never (suc i) (omega (arith, at.0), at.1))

-- the row of an item of a list with these rows
row_of : {X A : Type 0} (f : X → List ℕ × A) (xs : List X) (rows : List (List ℕ × A)) → map f xs ≡ rows → (k : ℕ) (d : X) → k < length xs → get_or rows k (f d) ≡ f (get_or xs k d)
row_of f xs rows e k d b = ap (λ l. get_or l k (f d)) (sym e) ∙ lists.get_or-map f xs k d (f d) b

as_many : {X A : Type 0} (f : X → List ℕ × A) (xs : List X) (rows : List (List ℕ × A)) → map f xs ≡ rows → length rows ≡ length xs
as_many f xs rows e = ap length (sym e) ∙ length-map xs f

pub found : {X A : Type 0} (f : X → List ℕ × A) (xs : List X) (rows : List (List ℕ × A)) → map f xs ≡ rows → (p : Places) → FindsAll p (names_of rows) →
    (x : List ℕ) (k : ℕ) → k ≡ index_of p x → (d : X) → k < length xs → (f (get_or xs k d)).0 ≡ x → value_named x rows ≡ Some (f (get_or xs k d)).1
found {X} {A} f xs rows e p h x k i d b q =
    let row = row_of f xs rows e k d b in
    listed x rows k (f d) (omega (arith, b, as_many f xs rows e)) (ap (λ (r : List ℕ × A). r.0) row ∙ q) (λ j at. sym (i ∙ its_index p (names_of rows) h j x at))
    ∙ ap (λ (r : List ℕ × A). Some r.1) row

pub not_found : {X A : Type 0} (f : X → List ℕ × A) (xs : List X) (rows : List (List ℕ × A)) → map f xs ≡ rows → (p : Places) → FindsAll p (names_of rows) →
    (x : List ℕ) (k : ℕ) → k ≡ index_of p x → (d : X) → (k < length xs → (f (get_or xs k d)).0 ≡ x → ⊥) → value_named x rows ≡ None
not_found {X} {A} f xs rows e p h x k i d missing =
    unlisted x rows (λ j at.
    let here : IsNameAt (names_of rows) k x = subst (λ j. IsNameAt (names_of rows) j x) (sym (i ∙ its_index p (names_of rows) h j x at)) at in
    let b : k < length xs = omega (arith, here.0, length-map rows (λ (r : List ℕ × A). r.0), as_many f xs rows e) in
    missing b (ap (λ (r : List ℕ × A). r.0) (sym (row_of f xs rows e k d b)) ∙ (sym (lists.get_or-map (λ (r : List ℕ × A). r.0) rows k (f d) [] (omega (arith, b, as_many f xs rows e))) ∙ here.1)))
