-- The text of a token.
use Rattle.std.specs.Prelude.{ℕ, ◌+◌, ◌-◌, List, [], Bool, ◌&&◌, ◌||◌, cond, nat_eq, nat_le, nat_lt, length, slice_index, slice_range}
use Rattle.wgsl_reader.specs.declared.token.Token.{Token}

-- a character begins at the index, or the text ends there
abbrev pub is_boundary : ℕ → List ℕ → Bool
is_boundary index text =
    cond (nat_lt index (length text)) (nat_lt (slice_index text index) 128 || nat_le 192 (slice_index text index)) (nat_eq index (length text))

abbrev pub is_within : Token → List ℕ → Bool
is_within t text = is_boundary t.at text && nat_le t.len (length text - t.at) && is_boundary (t.at + t.len) text

-- the text of a token, or nothing if the text has no such part
abbrev pub word : List ℕ → Token → List ℕ
word text t = cond (is_within t text) (slice_range text t.at (t.at + t.len)) []
