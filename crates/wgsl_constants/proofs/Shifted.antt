-- Products with powers of two that don't fit, and shifts by more bits than there are.
use Rattle.std.proofs.Common.{◌≡◌, ◌≢◌, ℕ, zero, suc, ◌+◌, ◌*◌, ◌<◌, ◌≤◌, ◌^◌, ℤ, pos, negsuc, ◌*ℤ◌, FitsSigned, true, false, refl, sym, ap, arith, w32, w64, int_lt, unsigned_abs}
use Rattle.std.specs.Int.{int_shr}
use Rattle.std.proofs.lemmas.Int.{fits_signed_mul, ints, unsigned_abs-mul}
use Rattle.std.proofs.Math.Nat.{div-eq_of_lt, mul-le-mul_right}
use Rattle.std.proofs.Math.Pow.{pow_mono}
use lib.Signed.{mag}

abs_le : (z : ℤ) → unsigned_abs z ≤ mag z + 1
abs_le (pos n) = omega arith
abs_le (negsuc n) = omega arith

-- a product that is too large below 0
below : (n k : ℕ) → FitsSigned w64 (negsuc n *ℤ pos (2 ^ k)) → suc n * 2 ^ k ≤ 2 ^ 63
below n k fits =
    let a : unsigned_abs (negsuc n *ℤ pos (2 ^ k)) ≡ suc n * 2 ^ k = unsigned_abs-mul (negsuc n) (pos (2 ^ k)) in
    let b = abs_le (negsuc n *ℤ pos (2 ^ k)) in
    let m : mag (negsuc n *ℤ pos (2 ^ k)) < 2 ^ 63 = fits.sfits in
    omega arith

pub too_large : (v : ℤ) (k : ℕ) → v ≢ pos 0 → 63 ≤ k → (v ≡ negsuc 0 → k ≢ 63) → ¬ FitsSigned w64 (v *ℤ pos (2 ^ k))
too_large (pos zero) k other far last fits = other refl
too_large (pos (suc n)) k other far last fits =
    let m : suc n * 2 ^ k < 2 ^ 63 = fits.sfits in
    let p : 2 ^ 63 ≤ 2 ^ k = pow_mono far in
    let q : 1 * 2 ^ k ≤ suc n * 2 ^ k = mul-le-mul_right (2 ^ k) (omega arith) in
    omega arith
too_large (negsuc zero) k other far last fits =
    let m = below zero k fits in
    let d = last refl in
    let g : 64 ≤ k = omega arith in
    let p : 2 ^ 64 ≤ 2 ^ k = pow_mono g in
    let q : 1 * 2 ^ k ≤ suc zero * 2 ^ k = mul-le-mul_right (2 ^ k) (omega arith) in
    omega arith
too_large (negsuc (suc n)) k other far last fits =
    let m = below (suc n) k fits in
    let p : 2 ^ 63 ≤ 2 ^ k = pow_mono far in
    let q : 2 * 2 ^ k ≤ suc (suc n) * 2 ^ k = mul-le-mul_right (2 ^ k) (omega arith) in
    omega arith

pub far_below : (v : ℤ) (k : ℕ) → FitsSigned w64 v → 64 ≤ k → int_lt v (pos 0) ≡ true → negsuc 0 ≡ int_shr v k
far_below (pos n) k fits far h = absurd (grind (arith, ints))
far_below (negsuc n) k fits far h =
    let m : n < 2 ^ 63 = fits.sfits in
    let p : 2 ^ 64 ≤ 2 ^ k = pow_mono far in
    ap negsuc (sym (div-eq_of_lt (omega arith)))

pub far_above : (v : ℤ) (k : ℕ) → FitsSigned w64 v → 64 ≤ k → int_lt v (pos 0) ≡ false → pos 0 ≡ int_shr v k
far_above (pos n) k fits far h =
    let m : n < 2 ^ 63 = fits.sfits in
    let p : 2 ^ 64 ≤ 2 ^ k = pow_mono far in
    ap pos (sym (div-eq_of_lt (omega arith)))
far_above (negsuc n) k fits far h = cc

pub fits : (v : ℤ) (k : ℕ) → FitsSigned w32 v → k < 32 → FitsSigned w64 (v *ℤ pos (2 ^ k))
fits v k small near =
    let a = abs_le v in
    let m : mag v < 2 ^ 31 = small.sfits in
    let g : k ≤ 31 = omega arith in
    let p : 2 ^ k ≤ 2 ^ 31 = pow_mono g in
    fits_signed_mul w64 v (pos (2 ^ k)) (2 ^ 31) (2 ^ 31) (omega arith) p (omega arith)
