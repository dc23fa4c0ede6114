-- How the members of a struct are placed one after another.
use Rattle.std.specs.Prelude.{◌≡◌, ℕ, ◌+◌, ◌<◌, ◌^◌, Option, Some}
use Rattle.std.specs.Int.{next_multiple_of}

abbrev pub IsValue : Option ℕ → ℕ → Type 0
IsValue o n = o ≡ Some n

-- the first offset of a member from `end` on, if the member ends below 2 ^ 32
abbrev pub IsSoonestOffset : Option ℕ → Option ℕ → ℕ → ℕ → Type 0
IsSoonestOffset end size align n = (e : ℕ) × (s : ℕ) × IsValue end e × IsValue size s × (0 < align)
    × (n ≡ next_multiple_of e align) × (n + s < 2 ^ 32)

-- the end of a member at its first offset from `end` on
abbrev pub IsSoonestEnd : Option ℕ → Option ℕ → ℕ → ℕ → Type 0
IsSoonestEnd end size align n = (e : ℕ) × (s : ℕ) × IsValue end e × IsValue size s × (0 < align)
    × (n ≡ next_multiple_of e align + s) × (n < 2 ^ 32)
