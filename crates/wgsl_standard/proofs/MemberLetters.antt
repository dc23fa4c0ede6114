-- Which letters are among the first n of four.
use Rattle.std.proofs.Common.{◌≡◌, ◌≢◌, ℕ, zero, suc, List, [], ◌∷◌, take, nat_eq, nat_lt, Bool, false, refl, rules}
use Rattle.std.specs.List.{list_any}

abbrev is_in : List ℕ → ℕ → Bool
is_in ls x = list_any (λ l. nat_eq l x) ls

pub first : (n a x : ℕ) (ls : List ℕ) → a ≡ x → nat_lt 0 n ≡ is_in (take n (a ∷ ls)) x
first zero a x ls e = refl
first (suc n) a x ls e = search (rules, e)

pub later : (k n a x : ℕ) (ls : List ℕ) → a ≢ x → ((m : ℕ) → nat_lt k m ≡ is_in (take m ls) x) → nat_lt (suc k) n ≡ is_in (take n (a ∷ ls)) x
later k zero a x ls e h = search rules
later k (suc n) a x ls e h = search (rules, e, h n)

pub never : (n a x : ℕ) (ls : List ℕ) → a ≢ x → ((m : ℕ) → false ≡ is_in (take m ls) x) → false ≡ is_in (take n (a ∷ ls)) x
never zero a x ls e h = refl
never (suc n) a x ls e h = search (rules, e, h n)

pub nowhere : (n x : ℕ) → false ≡ is_in (take n []) x
nowhere zero x = refl
nowhere (suc n) x = refl
