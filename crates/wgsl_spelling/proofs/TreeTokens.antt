-- Names as tokens.
use Rattle.std.proofs.Common.{◌≡◌, ◌<◌, ◌≤◌, ◌+◌, ◌-◌, ◌++◌, ℕ, suc, Bool, true, false, List, [], ◌∷◌, Ok, length, take, refl, ap, ◌∙◌, arith, ◌&&◌, leb-true}
use Rattle.wgsl_spelling.proofs.Common.{list_all, common_steps, byte_at, is_in_ascii_name, word_of, Token}
use Rattle.wgsl_reader.specs.Numbers.{begins_number}
use Rattle.wgsl_reader.specs.Tokens.{in_front, is_blank, is_in_name, name_len, name_of, piece_of, tokens_from, with_piece}
use Rattle.wgsl_reader.specs.declared.kind.Kind.TheVariants as k
use Rattle.wgsl_reader.specs.declared.piece.Piece.TheVariants as p
use Rattle.wgsl_spelling.proofs.Trees.{Ends, IsName, at_end, comma, greater, less, token}

pub both : (a b : Bool) → (a && b) ≡ true → (a ≡ true) × (b ≡ true)
both true true e = (refl, refl)
both true false e = absurd (cc e)
both false b e = absurd (cc e)

-- bytes that belong to the token before are passed
pub skipped : (bs rest : List ℕ) (at : ℕ) → tokens_from (length bs) at (bs ++ rest) ≡ tokens_from 0 (at + length bs) rest
skipped [] rest at = ap (λ n. tokens_from 0 n rest) (omega arith)
skipped (b ∷ bs) rest at = skipped bs rest (suc at) ∙ ap (λ n. tokens_from 0 n rest) (omega arith)

-- names

name_ends : {rest : List ℕ} → Ends rest → name_len rest ≡ 0
name_ends at_end = refl
name_ends (comma rest) = refl
name_ends (less rest) = refl
name_ends (greater rest) = refl

name_byte : (b x y : ℕ) → is_in_ascii_name b ≡ true → is_in_name b x y ≡ true
name_byte b x y e = rw e refl

name_length : (w rest : List ℕ) → list_all is_in_ascii_name w ≡ true → Ends rest → name_len (w ++ rest) ≡ length w
name_length [] rest all ends = name_ends ends
name_length (b ∷ bs) rest all ends =
    let parts = both (is_in_ascii_name b) (list_all is_in_ascii_name bs) all in
    rw (name_byte b (byte_at 0 (bs ++ rest)) (byte_at 1 (bs ++ rest)) parts.0) (ap suc (name_length bs rest parts.1 ends))

pub taken : (w rest : List ℕ) → take (length w) (w ++ rest) ≡ w
taken [] rest = refl
taken (b ∷ bs) rest = ap (λ bs. b ∷ bs) (taken bs rest)

name_piece : (bytes : List ℕ) → is_blank (byte_at 0 bytes) ≡ false → begins_number (byte_at 0 bytes) (byte_at 1 bytes) ≡ false → is_in_name (byte_at 0 bytes) (byte_at 1 bytes) (byte_at 2 bytes) ≡ true
    → piece_of bytes ≡ name_of bytes
name_piece bytes blank number named = rw (blank, number, named) refl

no_blank : (b : ℕ) → 65 ≤ b → is_blank b ≡ false
no_blank b letter = grind (arith, common_steps, letter)

no_number : (b x : ℕ) → 65 ≤ b → begins_number b x ≡ false
no_number b x letter = grind (arith, common_steps, letter)

name_is : (w rest : List ℕ) → IsName w → Ends rest → piece_of (w ++ rest) ≡ p.Token k.Name (length w)
name_is [] rest is ends = absurd (let e = is.letter in cc e)
name_is (b ∷ bs) rest is ends =
    let letter : 65 ≤ b = leb-true 65 b is.letter in
    let parts = both (is_in_ascii_name b) (list_all is_in_ascii_name bs) is.all in
    let len : name_len ((b ∷ bs) ++ rest) ≡ length (b ∷ bs) = name_length (b ∷ bs) rest is.all ends in
    let word : word_of (take (length (b ∷ bs)) ((b ∷ bs) ++ rest)) ≡ k.Name = ap word_of (taken (b ∷ bs) rest) ∙ is.kind in
    name_piece ((b ∷ bs) ++ rest) (no_blank b letter) (no_number b (byte_at 0 (bs ++ rest)) letter) (name_byte b (byte_at 0 (bs ++ rest)) (byte_at 1 (bs ++ rest)) parts.0)
    ∙ (ap (λ n. p.Token (word_of (take n ((b ∷ bs) ++ rest))) n) len ∙ ap (λ kind. p.Token kind (length (b ∷ bs))) word)

-- a token of some bytes, and those behind it
pub by_piece : (kind : _) (w rest : List ℕ) (at : ℕ) (more : List Token) → 0 < length w → piece_of (w ++ rest) ≡ p.Token kind (length w) → tokens_from 0 (at + length w) rest ≡ Ok more
    → tokens_from 0 at (w ++ rest) ≡ Ok (token kind at (length w) ∷ more)
by_piece kind [] rest at more some is behind = absurd (omega (arith, some))
by_piece kind (b ∷ bs) rest at more some is behind =
    let one : suc (length bs) - 1 ≡ length bs = omega arith in
    let there : suc at + length bs ≡ at + suc (length bs) = omega arith in
    ap (with_piece at (λ len. tokens_from (len - 1) (suc at) (bs ++ rest))) is
    ∙ (ap (λ n. in_front (token kind at (suc (length bs))) (tokens_from n (suc at) (bs ++ rest))) one
    ∙ ap (in_front (token kind at (suc (length bs)))) (skipped bs rest (suc at) ∙ (ap (λ n. tokens_from 0 n rest) there ∙ behind)))

some_name : (w : List ℕ) → IsName w → 0 < length w
some_name [] is = absurd (let e = is.letter in cc e)
some_name (b ∷ bs) is = omega arith

pub name_token : (w rest : List ℕ) (at : ℕ) (more : List Token) → IsName w → Ends rest → tokens_from 0 (at + length w) rest ≡ Ok more → tokens_from 0 at (w ++ rest) ≡ Ok (token k.Name at (length w) ∷ more)
name_token w rest at more is ends behind = by_piece k.Name w rest at more (some_name w is) (name_is w rest is ends) behind
