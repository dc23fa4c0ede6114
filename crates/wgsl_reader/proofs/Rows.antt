-- The tables have the rules in the order of their enumeration: a row is found by its index.
use Rattle.std.proofs.Common.{◌≡◌, ◌&&◌, ℕ, ◌-◌, ◌<◌, ◌≤◌, Bool, true, false, List, [], ◌∷◌, ◌++◌, Option, Some, None, Bor, drop, drop-cons, get_or, length, map, nat_lt, option_map, slice_get, zero, suc, refl, sym, ap, ◌∙◌, arith, IsTrue, if◌then◌else◌, eqb-true, eqb, lt-ltb, ltb-false, ltb-true}
use Rattle.std.proofs.lemmas.Option.{slice_get-map, slice_get-get_or}
use Rattle.wgsl_reader.proofs.Common.{and_parts, drop_all, eqb-false, length-map, tag_of, the_type as rule_type, Kind, Line, Rows, Symbol, lines_of, rows_of, rules, tables, Rule}
use Rattle.wgsl_reader.specs.Grammar.{all, find, line_of, row_of}

-- the lines at an index in tables, one behind the other
abbrev pub found_at : ℕ → List Rows → Option (List Line)
found_at i [] = None
found_at i (rows ∷ tables) = if nat_lt i (length rows) then option_map (λ row. row.1) (slice_get rows i) else found_at (i - length rows) tables

within : {A : Type 0} (xs ys : List A) (i : ℕ) → i < length xs → slice_get (xs ++ ys) i ≡ slice_get xs i
within [] ys i lt = absurd (omega (arith, lt))
within (x ∷ xs) ys zero lt = refl
within (x ∷ xs) ys (suc i) lt = within xs ys i (omega (arith, lt))

behind : {A : Type 0} (xs ys : List A) (i : ℕ) → length xs ≤ i → slice_get (xs ++ ys) i ≡ slice_get ys (i - length xs)
behind [] ys i past = ap (slice_get ys) (omega arith)
behind (x ∷ xs) ys zero past = absurd (omega (arith, past))
behind (x ∷ xs) ys (suc i) past = behind xs ys i (omega (arith, past)) ∙ ap (slice_get ys) (omega arith)

in_all : (i : ℕ) (all_rows : List Rows) → found_at i all_rows ≡ option_map (λ row. row.1) (slice_get (all all_rows) i)
in_all i [] = refl
in_all i (rows ∷ more) = turn (nat_lt i (length rows)) refl (in_all (i - length rows) more)
  where
    turn : (b : Bool) → nat_lt i (length rows) ≡ b → found_at (i - length rows) more ≡ option_map (λ row. row.1) (slice_get (all more) (i - length rows))
        → (if b then option_map (λ row. row.1) (slice_get rows i) else found_at (i - length rows) more) ≡ option_map (λ row. row.1) (slice_get (rows ++ all more) i)
    turn true e deeper = sym (ap (option_map (λ row. row.1)) (within rows (all more) i (ltb-true i (length rows) e)))
    turn false e deeper = deeper ∙ sym (ap (option_map (λ row. row.1)) (behind rows (all more) i (omega (arith, ltb-false i (length rows) e))))

-- the row of a rule

-- the rules of these rows have this number among the variants and those behind it
abbrev numbered_from : ℕ → Rows → Bool
numbered_from n [] = true
numbered_from n (row ∷ rows) = eqb n (tag_of rule_type row.0) && numbered_from (suc n) rows

rules_numbered : IsTrue (numbered_from 0 rules)
unfolding tables
rules_numbered = refl

found : (rule : Rule) (rows : Rows) (n : ℕ) → n ≤ tag_of rule_type rule → IsTrue (numbered_from n rows)
    → find rule rows ≡ option_map (λ row. row.1) (slice_get rows (tag_of rule_type rule - n))
found rule [] n le h = refl
found rule (row ∷ rows) n le h = turn (eqb (tag_of rule_type rule) (tag_of rule_type row.0)) refl (λ more. found rule rows (suc n) more parts.1)
  where
    parts : IsTrue (eqb n (tag_of rule_type row.0)) × IsTrue (numbered_from (suc n) rows)
    parts = and_parts (eqb n (tag_of rule_type row.0)) (numbered_from (suc n) rows) h

    here : n ≡ tag_of rule_type row.0
    here = eqb-true n (tag_of rule_type row.0) parts.0

    one_more : suc n ≤ tag_of rule_type rule → slice_get (row ∷ rows) (tag_of rule_type rule - n) ≡ slice_get rows (tag_of rule_type rule - suc n)
    one_more more =
        let next : tag_of rule_type rule - n ≡ suc (tag_of rule_type rule - suc n) = omega (arith, more) in
        ap (slice_get (row ∷ rows)) next

    turn : (b : Bool) → eqb (tag_of rule_type rule) (tag_of rule_type row.0) ≡ b
        → (suc n ≤ tag_of rule_type rule → find rule rows ≡ option_map (λ row. row.1) (slice_get rows (tag_of rule_type rule - suc n)))
        → (if b then Some row.1 else find rule rows) ≡ option_map (λ row. row.1) (slice_get (row ∷ rows) (tag_of rule_type rule - n))
    turn true e deeper =
        let same : tag_of rule_type rule - n ≡ 0 = omega (arith, here, eqb-true (tag_of rule_type rule) (tag_of rule_type row.0) e) in
        rw same refl
    turn false e deeper =
        let differ : tag_of rule_type rule ≡ tag_of rule_type row.0 → ⊥ = eqb-false (tag_of rule_type rule) (tag_of rule_type row.0) e in
        let more : suc n ≤ tag_of rule_type rule = omega (arith, le, here, differ) in
        deeper more ∙ sym (ap (option_map (λ row. row.1)) (one_more more))

pub row_found : (rule : Rule) → lines_of rule ≡ found_at (tag_of rule_type rule) tables
row_found rule = found rule rules 0 (omega arith) rules_numbered ∙ ap (λ n. option_map (λ row. row.1) (slice_get rules n)) (omega arith) ∙ sym (in_all (tag_of rule_type rule) tables)

-- what the search for an index comes to

abbrev Row : Type 0
Row = Rule × Bor (List (Option Kind × Bor (List Symbol)))

in_first : (rows : Bor (List Row)) (more : List Rows) (i : ℕ) (d : Row) → i < length rows.now → found_at i (rows_of rows ∷ more) ≡ Some (map line_of (get_or rows.now i d).1.now)
in_first rows more i d lt =
    rw (lt-ltb i (length (rows_of rows)) (omega (arith, lt, length-map rows.now row_of)))
    (ap (option_map (λ row. row.1)) (slice_get-map row_of rows.now i ∙ ap (option_map row_of) (slice_get-get_or rows.now i d lt)))

module _ (rule : Rule) (left : List (Bor (List Row))) (n i : ℕ) (same : found_at i (map rows_of (drop n left)) ≡ found_at (tag_of rule_type rule) tables) where
  pub line_there : (d : Bor (List Row)) (e : Row) → n < length left → i < length (get_or left n d).now → Some (map line_of (get_or (get_or left n d).now i e).1.now) ≡ lines_of rule
  line_there d e lt inside =
      sym (ap (λ left. found_at i (map rows_of left)) (drop-cons left n d lt) ∙ in_first (get_or left n d) (map rows_of (drop (suc n) left)) i e inside) ∙ (same ∙ sym (row_found rule))

  pub no_line : length left ≤ n → None ≡ lines_of rule
  no_line past = ap (λ left. found_at i (map rows_of left)) (sym (drop_all n left past)) ∙ (same ∙ sym (row_found rule))
