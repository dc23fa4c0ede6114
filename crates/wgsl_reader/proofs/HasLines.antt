-- Each rule has lines: the tables have all variants.
use Rattle.std.proofs.Common.{◌≡◌, ◌&&◌, ℕ, ◌<◌, Bool, true, false, List, [], ◌∷◌, Option, Some, None, length, nat_lt, zero, suc, refl, subst, arith, IsTrue, if◌then◌else◌, is_some, ltb-false, ltb-true, eqb}
use Rattle.wgsl_reader.proofs.Common.{and_parts, rowss, tag_of, the_type as rule_type, Line, Rows, lines_of, rules, tables, Rule}
use denote.Enum.Enum.{tag_below}

-- the lines of the rule that has this number among the variants

abbrev find_numbered : ℕ → Rows → Option (List Line)
find_numbered n [] = None
find_numbered n (row ∷ rows) = if eqb n (tag_of rule_type row.0) then Some row.1 else find_numbered n rows

abbrev numbered : ℕ → Bool
numbered n = is_some (find_numbered n rules)

abbrev all_below : ℕ → Bool
all_below zero = true
all_below (suc n) = numbered n && all_below n

below : (n m : ℕ) → n < m → IsTrue (all_below m) → IsTrue (numbered n)
below n zero lt h = absurd (omega (arith, lt))
below n (suc m) lt h = turn (nat_lt n m) refl (λ less. below n m less (and_parts (numbered m) (all_below m) h).1)
  where
    turn : (b : Bool) → nat_lt n m ≡ b → (n < m → IsTrue (numbered n)) → IsTrue (numbered n)
    turn true e deeper = deeper (ltb-true n m e)
    turn false e deeper = let same : m ≡ n = omega (arith, lt, ltb-false n m e) in subst (λ n. IsTrue (numbered n)) same (and_parts (numbered m) (all_below m) h).0

all_numbered : IsTrue (all_below (length (rowss rule_type.parts)))
unfolding tables
all_numbered = refl

pub has_lines : (rule : Rule) → IsTrue (is_some (lines_of rule))
has_lines rule =
    let n = tag_of rule_type rule in
    let one : IsTrue (numbered n) = below n (length (rowss rule_type.parts)) (tag_below (rowss rule_type.parts) (rule_type.to rule)) all_numbered in
    one
