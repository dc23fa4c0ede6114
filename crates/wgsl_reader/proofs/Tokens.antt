-- The tokens from an index on, piece by piece.
use Rattle.std.proofs.Common.{◌≡◌, ℕ, ◌+◌, ◌-◌, ◌<◌, Ok, Err, List, [], ◌∷◌, ◌++◌, drop, length, get_or, refl, sym, ap, ◌∙◌, arith, zero, suc, append_assoc, drop-drop}
use Rattle.wgsl_reader.proofs.Common.{common_steps, Tokens, in_front, mark_len, piece_of, tokens_from, tokens_of, with_piece, Kind, Token}
use Rattle.wgsl_reader.specs.declared.piece.Piece.{Piece}
use Rattle.wgsl_reader.specs.declared.piece.Piece.TheVariants as p

-- the rest of a piece in front of tokens
skipped : (n at : ℕ) (bytes : List ℕ) → tokens_from n at bytes ≡ tokens_from 0 (at + n) (drop n bytes)
skipped zero at bytes = ap (λ k. tokens_from 0 k bytes) (omega arith)
skipped (suc n) at [] = refl
skipped (suc n) at (byte ∷ bytes) = skipped n (suc at) bytes ∙ ap (λ k. tokens_from 0 k (drop n bytes)) (omega arith)

front : (at : ℕ) (text : List ℕ) → at < length text → drop at text ≡ get_or text at 0 ∷ drop (at + 1) text
front at text lt = grind (arith, common_steps, lt)

moved : (n at : ℕ) (text : List ℕ) → tokens_from n (suc at) (drop (at + 1) text) ≡ tokens_from 0 (at + 1 + n) (drop (at + 1 + n) text)
moved n at text =
    skipped n (suc at) (drop (at + 1) text) ∙ (ap (λ k. tokens_from 0 k (drop n (drop (at + 1) text))) (omega arith) ∙ ap (tokens_from 0 (at + 1 + n)) (drop-drop n (at + 1) text))

-- the tokens behind a piece of this length
abbrev pub behind : ℕ → List ℕ → ℕ → Tokens
behind at text len = tokens_from 0 (at + 1 + (len - 1)) (drop (at + 1 + (len - 1)) text)

by_piece : (piece : Piece) (at : ℕ) (text : List ℕ) → with_piece at (λ len. tokens_from (len - 1) (suc at) (drop (at + 1) text)) piece ≡ with_piece at (behind at text) piece
by_piece (p.Gap len) at text = moved (len - 1) at text
by_piece (p.Token kind len) at text = ap (in_front (record { kind = kind; at = at; len = len })) (moved (len - 1) at text)
by_piece p.OpenComment at text = refl
by_piece p.Strange at text = refl

from_front : (at : ℕ) (text : List ℕ) → at < length text → tokens_from 0 at (drop at text) ≡ with_piece at (λ len. tokens_from (len - 1) (suc at) (drop (at + 1) text)) (piece_of (drop at text))
from_front at text lt = rw (front at text lt) refl

-- what is read so far, in front of what is left
abbrev pub with_tokens : List Token → Tokens → Tokens
with_tokens tokens (Ok more) = Ok (tokens ++ more)
with_tokens tokens (Err at) = Err at

with_one_more : (tokens : List Token) (token : Token) (rest : Tokens) → with_tokens tokens (in_front token rest) ≡ with_tokens (tokens ++ token ∷ []) rest
with_one_more tokens token (Ok more) = ap Ok (sym (append_assoc tokens (token ∷ []) more))
with_one_more tokens token (Err at) = refl

-- what is read behind a byte order mark
pub begun : (text : List ℕ) (n : ℕ) (none : List Token) → none ≡ [] → n ≡ mark_len text → tokens_of text ≡ with_tokens none (tokens_from 0 n (drop n text))
begun text n none empty e = rw empty (ap (λ n. tokens_from n 0 text) (sym e) ∙ (skipped n 0 text ∙ (ap (λ k. tokens_from 0 k (drop n text)) (omega arith) ∙ alone (tokens_from 0 n (drop n text)))))
  where
    alone : (r : Tokens) → r ≡ with_tokens [] r
    alone (Ok more) = refl
    alone (Err at) = refl

module _ (text : List ℕ) (tokens : List Token) (at : ℕ) (lt : at < length text)
    (before : tokens_of text ≡ with_tokens tokens (tokens_from 0 at (drop at text))) where
  whole : (piece : Piece) → piece ≡ piece_of (drop at text) → tokens_of text ≡ with_tokens tokens (with_piece at (behind at text) piece)
  whole piece is = before ∙ ap (with_tokens tokens)
      (from_front at text lt ∙ (by_piece (piece_of (drop at text)) at text ∙ ap (with_piece at (behind at text)) (sym is)))

  pub gap_passed : (len next : ℕ) → p.Gap len ≡ piece_of (drop at text) → next ≡ at + 1 + (len - 1) → tokens_of text ≡ with_tokens tokens (tokens_from 0 next (drop next text))
  gap_passed len next is there = rw there (whole (p.Gap len) is)

  pub token_passed : (kind : Kind) (len next : ℕ) → p.Token kind len ≡ piece_of (drop at text) → next ≡ at + 1 + (len - 1)
      → (more : List Token) → more ≡ tokens ++ record { kind = kind; at = at; len = len } ∷ []
      → tokens_of text ≡ with_tokens more (tokens_from 0 next (drop next text))
  token_passed kind len next is there more e =
      rw (there, e) (whole (p.Token kind len) is ∙ with_one_more tokens (record { kind = kind; at = at; len = len }) (behind at text len))
