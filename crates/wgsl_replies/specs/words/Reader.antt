-- The words of a request, and readers: what words begin with, and the words behind it.
use Rattle.std.specs.Prelude.{◌≡◌, ◌<◌, ◌≤◌, ℕ, ◌||◌, if◌then◌else◌, Bool, true, false, nat_eq, List, [], ◌∷◌, Option, IfSome, MatchOption, drop, filter}
use Rattle.std.specs.Prelude.{length, IsCharBoundary, zero, suc, Some, None, Result, Ok, Err, option_map}
use Rattle.std.specs.Borrow.{Bor}
use Rattle.wgsl_replies.specs.words.Prelude.{named, Fail, Misfit}
use Rattle.wgsl_core.specs.declared.error.Fail.TheVariants.{Error, Memory}

-- a space, a tab and a carriage return separate words, and nothing else does
abbrev pub is_separator : ℕ → Bool
is_separator byte = nat_eq byte 32 || nat_eq byte 9 || nat_eq byte 13

-- the byte in front of the first piece
abbrev pub into_first : ℕ → List (List ℕ) → List (List ℕ)
into_first byte [] = (byte ∷ []) ∷ []
into_first byte (piece ∷ pieces) = (byte ∷ piece) ∷ pieces

-- the pieces of a line that is cut at each byte that passes the test
abbrev pub pieces : (ℕ → Bool) → List ℕ → List (List ℕ)
pieces cuts [] = [] ∷ []
pieces cuts (byte ∷ bytes) =
    if cuts byte then [] ∷ pieces cuts bytes else into_first byte (pieces cuts bytes)

abbrev pub has_bytes : List ℕ → Bool
has_bytes [] = false
has_bytes (_ ∷ _) = true

-- the words of a line: its pieces that have bytes
abbrev pub words_of : List ℕ → List (List ℕ)
words_of bytes = filter has_bytes (pieces is_separator bytes)

-- The first word of a text, and the index after it, if it has words.
pub record IsFirstWord (text : List ℕ) (result : Option (Bor (List ℕ) × ℕ)) : Type 0 where
  pub words : MatchOption result (words_of text ≡ [])
      (λ found. words_of text ≡ found.0.now ∷ words_of (drop found.1 text))
  pub boundary : IfSome result (λ found. IsCharBoundary text found.1)
  pub some : IfSome result (λ found. 0 < found.1)
  pub within : IfSome result (λ found. found.1 ≤ length text)

abbrev pub Words : Type 0
Words = List (List ℕ)

-- None if the words begin with no such thing
abbrev pub Reader : Type 0 → Type 0
Reader A = Words → Option (A × Words)

abbrev pub and_then : {A B : Type 0} → Option (A × Words) → (A → Reader B) → Option (B × Words)
and_then None f = None
and_then (Some p) f = f p.0 p.1

infixl 10 ◌>>=◌
abbrev pub ◌>>=◌ : {A B : Type 0} → Reader A → (A → Reader B) → Reader B
r >>= f = λ words. and_then (r words) f

abbrev pub pure : {A : Type 0} → A → Reader A
pure x = λ words. Some (x, words)

infixr 11 ◌<$>◌
abbrev pub ◌<$>◌ : {A B : Type 0} → (A → B) → Reader A → Reader B
f <$> r = r >>= (λ x. pure (f x))

-- any word
abbrev pub a_word : Reader (List ℕ)
a_word [] = None
a_word (first ∷ rest) = Some (first, rest)

-- what a word means
abbrev pub means : {A : Type 0} → Option A → Reader A
means meaning = λ words. option_map (λ x. (x, words)) meaning

-- a word with a meaning
abbrev pub one : {A : Type 0} → (List ℕ → Option A) → Reader A
one meaning = a_word >>= (λ w. means (meaning w))

-- what comes behind a thing that was found, or else another
abbrev pub or_else : {A B : Type 0} → Option A → (A → Reader B) → Reader B → Reader B
or_else (Some x) more other = more x
or_else None more other = other

-- what a reader reads, if there is one
abbrev pub optional : {A : Type 0} → Option (Reader A) → Reader (Option A)
optional None = pure None
optional (Some r) = Some <$> r

-- this number of things, one after another
abbrev pub times : {A : Type 0} → ℕ → Reader A → Reader (List A)
times zero r = pure []
times (suc n) r = do
  x ← r
  xs ← times n r
  pure (x ∷ xs)

-- two things, one after the other
abbrev pub pair : {A : Type 0} → Reader A → Reader (A × A)
pair r = do
  x ← r
  y ← r
  pure (x, y)

-- nothing can be read
abbrev pub nothing : {A : Type 0} → Reader A
nothing words = None

-- what is read as a table says of this word
abbrev pub one_of : {A : Type 0} → List (Reader A × List ℕ) → List ℕ → Reader A
one_of rows word = or_else (named rows word) (λ r. r) nothing

-- what comes behind a thing that was found
abbrev pub behind : {A B : Type 0} → Option (A × Words) → (A → Words → Option B) → Option B
behind None more = None
behind (Some p) more = more p.0 p.1

-- a thing with no words behind it
abbrev pub alone : {A : Type 0} → Option (A × Words) → Option A
alone (Some (x, [])) = Some x
alone found = None

abbrev pub last : {A : Type 0} → Reader A → Words → Option A
last r words = alone (r words)

-- Things up to the end of the words. A thing has words, so there are no more things than words.
abbrev pub all_behind : {A : Type 0} → (Words → Option (List A)) → Option (A × Words) → Option (List A)
all_behind others None = None
all_behind others (Some p) = option_map (λ xs. p.0 ∷ xs) (others p.1)

abbrev pub all_within : {A : Type 0} → ℕ → Reader A → Words → Option (List A)
all_within n r [] = Some []
all_within zero r (first ∷ rest) = None
all_within (suc n) r (first ∷ rest) = all_behind (all_within n r) (r (first ∷ rest))

unfoldable pub all : {A : Type 0} → Reader A → Words → Option (List A)
all r words = all_within (length words) r words

-- nothing was found, unless memory ran out
abbrev pub Misses : {A : Type 0} → Fail Misfit → Option A → Type 0
Misses (Error misfit) found = found ≡ None
Misses (Memory e) found = Unit {0}

-- What a function returned, as `view` shows it, is what was found, unless memory ran out.
abbrev pub Gives : {A B : Type 0} → (A → B) → Option B → Result A (Fail Misfit) → Type 0
Gives view found (Ok x) = found ≡ Some (view x)
Gives view found (Err e) = Misses e found

-- The same of a reader, where the function left these words.
abbrev pub Reads : {A B : Type 0} → (A → B) → Option (B × Words) → Result A (Fail Misfit) → Words → Type 0
Reads view found (Ok x) left = found ≡ Some (view x, left)
Reads view found (Err e) left = Misses e found
