-- The texts of types as trees: a name, a number, or a name with a template list. The parts of a list are one tree: a part, or a part and those behind it.
use Rattle.std.proofs.Common.{◌≡◌, ◌<◌, ◌^◌, ◌+◌, ◌++◌, ℕ, suc, Bool, true, false, List, [], ◌∷◌, decimal, length, ◌||◌, nat_le}
use Rattle.wgsl_spelling.proofs.Common.{list_all, is_digit, is_in_ascii_name, word_of, Kind, Token, is_bitcast}
use Rattle.wgsl_reader.specs.declared.kind.Kind.TheVariants as k

pub data Tree : Type 0 where
  name : List ℕ → Tree
  digits : ℕ → Tree
  list : List ℕ → Tree → Tree
  parts : Tree → Tree → Tree

-- the text of a tree, in front of other bytes
abbrev pub text : Tree → List ℕ → List ℕ
text (name w) rest = w ++ rest
text (digits n) rest = decimal n ++ rest
text (list w t) rest = w ++ (60 ∷ text t (62 ∷ rest))
text (parts a b) rest = text a (44 ∷ 32 ∷ text b rest)

-- the index behind it
abbrev pub past : Tree → ℕ → ℕ
past (name w) at = at + length w
past (digits n) at = at + length (decimal n)
past (list w t) at = suc (past t (suc (at + length w)))
past (parts a b) at = past b (suc (suc (past a at)))

abbrev pub token : Kind → ℕ → ℕ → Token
token kind at len = record { kind = kind; at = at; len = len }

-- its tokens in front of others, with these kinds of `<` and `>`
abbrev pub tokens : Kind → Kind → Tree → ℕ → List Token → List Token
tokens lt gt (name w) at more = token k.Name at (length w) ∷ more
tokens lt gt (digits n) at more = token k.Number at (length (decimal n)) ∷ more
tokens lt gt (list w t) at more =
    token k.Name at (length w) ∷ token lt (at + length w) 1 ∷ tokens lt gt t (suc (at + length w))
    (token gt (past t (suc (at + length w))) 1 ∷ more)
tokens lt gt (parts a b) at more = tokens lt gt a at (token k.Comma (past a at) 1 ∷ tokens lt gt b (suc (suc (past a at))) more)

abbrev pub begins_letter : List ℕ → Bool
begins_letter [] = false
begins_letter (b ∷ bs) = nat_le 65 b

-- a name of ASCII that is no keyword, and isn't `bitcast`
pub record IsName (w : List ℕ) : Type 0 where
  pub letter : begins_letter w ≡ true
  pub all : list_all is_in_ascii_name w ≡ true
  pub kind : word_of w ≡ k.Name
  pub plain : is_bitcast w ≡ false

-- a tree that is no number is a type
pub data IsType : Tree → Type 0 where
  name_is : {w : List ℕ} → IsType (name w)
  list_is : {w : List ℕ} {t : Tree} → IsType (list w t)

pub data IsPart : Tree → Type 0 where
  of_type : {t : Tree} → IsType t → IsPart t
  of_number : {n : ℕ} → IsPart (digits n)

-- one to three parts
pub data IsFew : Tree → Type 0 where
  one : {a : Tree} → IsPart a → IsFew a
  two : {a b : Tree} → IsPart a → IsPart b → IsFew (parts a b)
  three : {a b c : Tree} → IsPart a → IsPart b → IsPart c → IsFew (parts a (parts b c))

abbrev pub IsGood : Tree → Type 0
IsGood (name w) = IsName w
IsGood (digits n) = n < 2 ^ 63
IsGood (list w t) = IsName w × IsFew t × IsGood t
IsGood (parts a b) = IsPart a × IsGood a × IsGood b

-- what may stand behind a name or a number
pub data Ends : List ℕ → Type 0 where
  at_end : Ends []
  comma : (rest : List ℕ) → Ends (44 ∷ rest)
  less : (rest : List ℕ) → Ends (60 ∷ rest)
  greater : (rest : List ℕ) → Ends (62 ∷ rest)

abbrev pub starts : List ℕ → Bool
starts [] = false
starts (b ∷ bs) = nat_le 65 b || is_digit b
