-- Divisibility by `%`.
use Rattle.std.proofs.Common.{◌≡◌, ◌↔◌, ℕ, ◌%◌}
use Rattle.std.specs.Int.{◌∣◌}
use Rattle.std.proofs.lemmas.Nat.Gcd.{dvd_of_mod-eq-zero, mod-eq-zero_of_dvd}
use Rattle.std.proofs.Math.Nat.{zero-dvd}

pub divides_zero : (n : ℕ) → (n ≡ 0) ↔ (0 ∣ n)
divides_zero n = (zero-dvd.1, zero-dvd.0)

pub divides_other : (d n : ℕ) → (n % d ≡ 0) ↔ (d ∣ n)
divides_other d n = (dvd_of_mod-eq-zero d, mod-eq-zero_of_dvd d)
