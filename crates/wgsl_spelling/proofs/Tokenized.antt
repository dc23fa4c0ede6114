-- The tokens of the text of a tree.
use Rattle.std.proofs.Common.{◌≡◌, ◌+◌, ◌-◌, ◌++◌, ℕ, suc, true, false, List, [], ◌∷◌, Ok, length, refl, ap, ◌∙◌, arith, ◌||◌, nat_eq, nat_le}
use Rattle.wgsl_spelling.proofs.Common.{common_steps, is_digit, in_front, piece_of, tokens_from, with_piece, Token}
use Rattle.wgsl_reader.specs.declared.kind.Kind.TheVariants as k
use Rattle.wgsl_reader.specs.declared.piece.Piece.TheVariants as p
use Rattle.wgsl_spelling.proofs.TreeNumbers.{number_token, starts_number}
use Rattle.wgsl_spelling.proofs.TreeTokens.{name_token}
use Rattle.wgsl_spelling.proofs.Trees.{Ends, IsGood, IsName, Tree, comma, digits, greater, less, list, name, parts, past, starts, text, token, tokens}

-- signs

not_less : (b : ℕ) → (nat_le 65 b || is_digit b) ≡ true → (nat_eq b 60 ≡ false) × (nat_eq b 61 ≡ false)
not_less b e = (grind (arith, common_steps, e), grind (arith, common_steps, e))

less_piece : (b : ℕ) (bs : List ℕ) → nat_eq b 60 ≡ false → nat_eq b 61 ≡ false → piece_of (60 ∷ b ∷ bs) ≡ p.Token k.Less 1
less_piece b bs e f = rw (e, f) refl

less_is : (bytes : List ℕ) → starts bytes ≡ true → piece_of (60 ∷ bytes) ≡ p.Token k.Less 1
less_is [] e = absurd (cc e)
less_is (b ∷ bs) e = let parts = not_less b e in less_piece b bs parts.0 parts.1

sign : (kind : _) (b : ℕ) (bytes : List ℕ) (at : ℕ) (more : List Token) → piece_of (b ∷ bytes) ≡ p.Token kind 1 → tokens_from 0 (suc at) bytes ≡ Ok more → tokens_from 0 at (b ∷ bytes) ≡ Ok (token kind at 1 ∷ more)
sign kind b bytes at more is behind = ap (with_piece at (λ len. tokens_from (len - 1) (suc at) bytes)) is ∙ ap (in_front (token kind at 1)) behind

blank : (bytes : List ℕ) (at : ℕ) → tokens_from 0 at (32 ∷ bytes) ≡ tokens_from 0 (suc at) bytes
blank bytes at = refl

name_starts : (w rest : List ℕ) → IsName w → starts (w ++ rest) ≡ true
name_starts [] rest is = absurd (let e = is.letter in cc e)
name_starts (b ∷ bs) rest is = ap (λ l. l || is_digit b) is.letter

tree_starts : (t : Tree) (rest : List ℕ) → IsGood t → starts (text t rest) ≡ true
tree_starts (name w) rest good = name_starts w rest good
tree_starts (digits n) rest good = starts_number n rest good
tree_starts (list w t) rest good = name_starts w _ good.0
tree_starts (parts a b) rest good = tree_starts a _ good.1

pub tokenized : (t : Tree) (rest : List ℕ) (at : ℕ) (more : List Token) → IsGood t → Ends rest → tokens_from 0 (past t at) rest ≡ Ok more → tokens_from 0 at (text t rest) ≡ Ok (tokens k.Less k.Greater t at more)
tokenized (name w) rest at more good ends behind = name_token w rest at more good ends behind
tokenized (digits n) rest at more good ends behind = number_token n rest at more good ends behind
tokenized (list w t) rest at more good ends behind =
    let from = suc (at + length w) in
    name_token w _ at _ good.0 (less (text t (62 ∷ rest)))
    (sign k.Less 60 (text t (62 ∷ rest)) (at + length w) _ (less_is (text t (62 ∷ rest)) (tree_starts t (62 ∷ rest) good.2))
    (tokenized t (62 ∷ rest) from _ good.2 (greater rest)
    (sign k.Greater 62 rest (past t from) more refl behind)))
tokenized (parts a b) rest at more good ends behind =
    tokenized a (44 ∷ 32 ∷ text b rest) at _ good.1 (comma (32 ∷ text b rest))
    (sign k.Comma 44 (32 ∷ text b rest) (past a at) _ refl (tokenized b rest (suc (suc (past a at))) more good.2 ends behind))
