-- The tokens of a text (WGSL, "Textual Structure").
use Rattle.std.specs.Prelude.{◌≤◌, ℕ, zero, suc, ◌+◌, ◌-◌, List, [], ◌∷◌, Option, Some, None, Result, Ok, Err, Bool, nat_eq, nat_le, not, ◌&&◌, ◌||◌, cond, is_some, take, drop}
use Rattle.wgsl_reader.specs.Signs.{sign_of}
use Rattle.wgsl_reader.specs.Words.{word_of}
use Rattle.wgsl_reader.specs.Numbers.{begins_number, number_len}
use Rattle.wgsl_reader.specs.Bytes.{byte_at, is_between, is_in_ascii_name}
use Rattle.wgsl_reader.specs.declared.kind.Kind.{Kind}
use Rattle.wgsl_reader.specs.declared.kind.Kind.TheVariants as k
use Rattle.wgsl_reader.specs.declared.token.Token.{Token}
use Rattle.wgsl_reader.specs.declared.piece.Piece.{Piece}
use Rattle.wgsl_reader.specs.declared.piece.Piece.TheVariants as p

-- Blankspace and line breaks. Beyond ASCII they are U+0085, U+200E, U+200F, U+2028 and U+2029: how many bytes such a blank has.

abbrev pub is_blank : ℕ → Bool
is_blank byte = nat_eq byte 32 || is_between 9 13 byte

abbrev pub wide_blank : ℕ → ℕ → ℕ → Option ℕ
wide_blank first second third =
    cond (nat_eq first 194 && nat_eq second 133) (Some 2)
    (cond (nat_eq first 226 && nat_eq second 128 && (is_between 142 143 third || is_between 168 169 third)) (Some 3) None)

abbrev pub breaks_line : ℕ → ℕ → ℕ → Bool
breaks_line first second third =
    is_between 10 13 first || nat_eq first 194 && nat_eq second 133 || nat_eq first 226 && nat_eq second 128 && is_between 168 169 third

-- the bytes up to the end of the line
abbrev pub line_len : List ℕ → ℕ
line_len [] = 0
line_len (byte ∷ bytes) = cond (breaks_line byte (byte_at 0 bytes) (byte_at 1 bytes)) 0 (suc (line_len bytes))

abbrev pub more : ℕ → Option ℕ → Option ℕ
more n None = None
more n (Some len) = Some (n + len)

abbrev pub is_pair : ℕ → ℕ → ℕ → ℕ → Bool
is_pair a b first second = nat_eq first a && nat_eq second b

-- The bytes up to the end of a block comment, in which `opened` others are open; None if it isn't closed.
abbrev pub block_len : ℕ → List ℕ → Option ℕ
block_len opened [] = None
block_len opened (byte ∷ []) = None
block_len opened (first ∷ second ∷ bytes) =
    cond (is_pair 47 42 first second) (more 2 (block_len (suc opened) bytes))
    (cond (is_pair 42 47 first second) (cond (nat_eq opened 0) (Some 2) (more 2 (block_len (opened - 1) bytes)))
    (more 1 (block_len opened (second ∷ bytes))))

-- A byte of a name: a letter, a digit, `_`, or a byte of a character beyond ASCII that is no blank.
abbrev pub is_in_name : ℕ → ℕ → ℕ → Bool
is_in_name first second third = is_in_ascii_name first || nat_le 128 first && not (is_some (wide_blank first second third))

-- the bytes up to the end of a name
abbrev pub name_len : List ℕ → ℕ
name_len [] = 0
name_len (byte ∷ bytes) = cond (is_in_name byte (byte_at 0 bytes) (byte_at 1 bytes)) (suc (name_len bytes)) 0

abbrev pub block : Option ℕ → Piece
block None = p.OpenComment
block (Some len) = p.Gap len

abbrev pub sign : Option (Kind × ℕ) → Piece
sign None = p.Strange
sign (Some found) = p.Token found.0 found.1

abbrev pub blank_or : Option ℕ → Piece → Piece
blank_or (Some len) piece = p.Gap len
blank_or None piece = piece

abbrev pub blank_or_sign : ℕ → ℕ → ℕ → Piece
blank_or_sign first second third = blank_or (wide_blank first second third) (sign (sign_of first second third))

-- a name or a keyword
abbrev pub name_of : List ℕ → Piece
name_of bytes = p.Token (word_of (take (name_len bytes) bytes)) (name_len bytes)

-- What bytes begin with, and how many bytes it has: a blank or a comment, or the longest token.
abbrev pub piece_of : List ℕ → Piece
piece_of bytes =
    let first = byte_at 0 bytes in
    let second = byte_at 1 bytes in
    let third = byte_at 2 bytes in
    cond (is_blank first) (p.Gap 1)
    (cond (begins_number first second) (p.Token k.Number (number_len bytes))
    (cond (is_in_name first second third) (name_of bytes)
    (cond (nat_eq first 47 && nat_eq second 47) (p.Gap (line_len bytes))
    (cond (nat_eq first 47 && nat_eq second 42) (block (more 2 (block_len 0 (drop 2 bytes))))
    (blank_or_sign first second third)))))

-- a piece has at most n bytes
abbrev pub IsWithin : ℕ → Piece → Type 0
IsWithin n (p.Gap len) = len ≤ n
IsWithin n (p.Token kind len) = len ≤ n
IsWithin n p.OpenComment = Unit {0}
IsWithin n p.Strange = Unit {0}

-- tokens, or the index of the byte where no token begins or a comment that isn't closed
abbrev pub Tokens : Type 0
Tokens = Result (List Token) ℕ

abbrev pub in_front : Token → Tokens → Tokens
in_front token (Ok tokens) = Ok (token ∷ tokens)
in_front token (Err at) = Err at

-- the piece that begins at an index, and the tokens behind it
abbrev pub with_piece : ℕ → (ℕ → Tokens) → Piece → Tokens
with_piece at behind (p.Gap len) = behind len
with_piece at behind (p.Token kind len) = in_front (record { kind = kind; at = at; len = len }) (behind len)
with_piece at behind p.OpenComment = Err at
with_piece at behind p.Strange = Err at

-- the tokens from an index on, where the first `skipped` bytes still belong to the piece before
abbrev pub tokens_from : ℕ → ℕ → List ℕ → Tokens
tokens_from skipped at [] = Ok []
tokens_from (suc skipped) at (byte ∷ bytes) = tokens_from skipped (suc at) bytes
tokens_from zero at (byte ∷ bytes) = with_piece at (λ len. tokens_from (len - 1) (suc at) bytes) (piece_of (byte ∷ bytes))

-- the bytes of a byte order mark at the start, U+FEFF
abbrev pub mark_len : List ℕ → ℕ
mark_len (first ∷ second ∷ third ∷ bytes) = cond (nat_eq first 239 && nat_eq second 187 && nat_eq third 191) 3 0
mark_len short = 0

-- the tokens of a text, without its template lists
abbrev pub tokens_of : List ℕ → Tokens
tokens_of text = tokens_from (mark_len text) 0 text

-- the tokens, or the index, that the code returns
abbrev pub tokens_in : {V : Type 0} → (V → List Token) → Result V ℕ → Tokens
tokens_in items (Ok v) = Ok (items v)
tokens_in items (Err at) = Err at
