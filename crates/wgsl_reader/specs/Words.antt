-- Keywords and reserved words (WGSL, "Keyword Summary", "Reserved Words"). They are constants of the code.
use Rattle.std.specs.Prelude.{ℕ, List, [], ◌∷◌, map, nat_eq, ◌&&◌, cond}
use Rattle.std.specs.Borrow.{Bor}
use Rattle.std.specs.Str.{bytes_eq}
use Rattle.wgsl_reader.specs.Bytes.{byte_at}
use Rattle.wgsl_reader.specs.declared.kind.Kind.{Kind}
use Rattle.wgsl_reader.specs.declared.kind.Kind.TheVariants as k
use Rattle.wgsl_reader.specs.declared.word.TheConstants.{WORDS}

abbrev pub entry_of : Bor (List ℕ) × Kind → List ℕ × Kind
entry_of word = (word.0.now, word.1)

abbrev pub row_of : ℕ × Bor (List (Bor (List ℕ) × Kind)) → ℕ × List (List ℕ × Kind)
row_of row = (row.0, map entry_of row.1.now)

unfoldable pub words : List (ℕ × List (List ℕ × Kind))
words = map (λ row. (row.0, map (λ word. (word.0.now, word.1)) row.1.now)) WORDS.now

-- the kind of a word of a list; any other word is a name
abbrev pub kind_listed : List ℕ → List (List ℕ × Kind) → Kind
kind_listed word [] = k.Name
kind_listed word (entry ∷ entries) = cond (bytes_eq word entry.0) entry.1 (kind_listed word entries)

-- the kind of a word, from the list for its first byte
abbrev pub kind_in : List ℕ → ℕ → List (ℕ × List (List ℕ × Kind)) → Kind
kind_in word first [] = k.Name
kind_in word first (row ∷ rows) = cond (nat_eq first row.0) (kind_listed word row.1) (kind_in word first rows)

-- `fn` is a keyword; `typedef` and `__a` are reserved; `_` is a sign; `a` and `_a` are names
abbrev pub word_of : List ℕ → Kind
word_of word =
    let first = byte_at 0 word in
    cond (nat_eq first 95 && nat_eq (byte_at 1 word) 95) k.Reserved (kind_in word first words)
