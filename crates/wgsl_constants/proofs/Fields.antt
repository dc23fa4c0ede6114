-- Bits of a 32-bit integer stay in it.
use Rattle.std.proofs.Common.{◌≡◌, ℕ, suc, ◌+◌, ◌-◌, ◌*◌, ◌/◌, ◌%◌, ◌<◌, ◌≤◌, ◌^◌, refl, sym, arith, pow-add, pow_pos}
use Rattle.std.proofs.lemmas.Nat.{mod-pow-add, shl_below, shr_split}
use Rattle.std.proofs.Math.Nat.{div-mul-le_self, lt_of_mul-lt-mul_right, mod-lt, mul-le-mul_right}
use Rattle.std.proofs.Math.Pow.{pow_mono}

-- c bits at bit o
pub placed : (f o c : ℕ) → f < 2 ^ c → o + c ≤ 32 → f * 2 ^ o < 2 ^ 32
placed f o c few within =
    let below : f * 2 ^ o < 2 ^ (c + o) = shl_below f c o few in
    let h : c + o ≤ 32 = omega arith in
    let most : 2 ^ (c + o) ≤ 2 ^ 32 = pow_mono h in
    omega arith

module _ (n o c : ℕ) (in_32 : n < 2 ^ 32) (within : o + c ≤ 32) where
  abbrev old : ℕ
  old = n / 2 ^ o % 2 ^ c * 2 ^ o

  abbrev above : ℕ
  above = n / 2 ^ (c + o) * 2 ^ (c + o)

  split : n ≡ above + (old + n % 2 ^ o)
  split =
      let whole : above + n % 2 ^ (c + o) ≡ n = shr_split n (c + o) in
      let rest : n % 2 ^ (c + o) ≡ old + n % 2 ^ o = mod-pow-add n c o in
      omega arith

  room : above + 2 ^ (c + o) ≤ 2 ^ 32
  room =
      let rest = 32 - (c + o) in
      let h : rest + (c + o) ≡ 32 = omega arith in
      let whole : 2 ^ (rest + (c + o)) ≡ 2 ^ rest * 2 ^ (c + o) = pow-add 2 rest (c + o) in
      let all : 2 ^ rest * 2 ^ (c + o) ≡ 2 ^ 32 = rw (sym whole, h) refl in
      let under : n / 2 ^ (c + o) * 2 ^ (c + o) ≤ n = div-mul-le_self n (2 ^ (c + o)) in
      let lower : n / 2 ^ (c + o) * 2 ^ (c + o) < 2 ^ rest * 2 ^ (c + o) = omega arith in
      let fewer : n / 2 ^ (c + o) < 2 ^ rest = lt_of_mul-lt-mul_right (2 ^ (c + o)) lower in
      let product : suc (n / 2 ^ (c + o)) * 2 ^ (c + o) ≤ 2 ^ rest * 2 ^ (c + o) = mul-le-mul_right (2 ^ (c + o)) fewer in
      omega arith

  pub new_in : (f : ℕ) → f < 2 ^ c → n - old + f * 2 ^ o < 2 ^ 32
  new_in f few =
      let s = split in
      let r = room in
      let low : n % 2 ^ o < 2 ^ o = mod-lt n (pow_pos o) in
      let product : suc f * 2 ^ o ≤ 2 ^ c * 2 ^ o = mul-le-mul_right (2 ^ o) few in
      let whole : 2 ^ (c + o) ≡ 2 ^ c * 2 ^ o = pow-add 2 c o in
      omega arith
