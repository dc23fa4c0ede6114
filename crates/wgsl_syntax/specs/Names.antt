-- How the values of an enumeration are named, and how a name is parsed (WGSL, "Context-Dependent Names").
use Rattle.std.specs.Prelude.{◌≡◌, ◌≢◌, ◌↔◌, ℕ, List, [], ◌∷◌, All, Contains, map, Option, Some, None, Result, Ok, if◌then◌else◌, ⊤}
use Rattle.std.specs.Borrow.{Bor}
use Rattle.std.specs.Str.{bytes_eq}

-- the table of an enumeration: each value with its text
abbrev pub table : {A : Type 0} → (A → List ℕ) → List A → List (A × List ℕ)
table text values = map (λ x. (x, text x)) values

-- a row of a table as the code has it
abbrev pub row_of : {A : Type 0} → A × Bor (List ℕ) → A × List ℕ
row_of row = (row.0, row.1.now)

-- the table has every value with its text and nothing else, and no two values share a text
pub record IsNaming {A : Type 0} (text : A → List ℕ) (rows : List (A × List ℕ)) : Type 0 where
  pub every : (x : A) → Contains rows (x, text x)
  pub nothing_else : All (λ row. row.1 ≡ text row.0) rows
  pub distinct : (x y : A) → text x ≡ text y → x ≡ y

-- the first value that has this text
abbrev pub named : {A : Type 0} → List (A × List ℕ) → List ℕ → Option A
named [] s = None
named (row ∷ rows) s = if bytes_eq s row.1 then Some row.0 else named rows s

-- parsing gives a value exactly for its text
abbrev pub Reads : {A : Type 0} → (A → List ℕ) → List ℕ → Result A ⊤ → Type 0
Reads {A} text s r = (x : A) → (r ≡ Ok x) ↔ (s ≡ text x)

-- the same, but no text gives the value `never`
abbrev pub ReadsBut : {A : Type 0} → A → (A → List ℕ) → List ℕ → Result A ⊤ → Type 0
ReadsBut {A} never text s r = (x : A) → (r ≡ Ok x) ↔ ((s ≡ text x) × (x ≢ never))
