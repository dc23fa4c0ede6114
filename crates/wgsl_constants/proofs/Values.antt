-- What the operations of the machine answer is the value of an operator.
use Rattle.std.proofs.Common.{◌≡◌, ◌≢◌, ℕ, zero, suc, ◌<◌, ℤ, pos, negsuc, Bool, true, false, Option, Some, None, Result, Ok, Err, FitsSigned, w32, w64, int_div, nat_eq, refl, ap, arith, ltb-true, eqb-true, lt-ltb}
use Rattle.std.specs.Option.{SomeIff, ok_or}
use Rattle.wgsl_constants.specs.declared.integer.IntegerError.{IntegerError}
use Rattle.wgsl_constants.specs.declared.integer.IntegerError.TheVariants.{DivisionByZero, Overflow}
use Rattle.wgsl_constants.specs.Answers.{fitting}
use Rattle.wgsl_constants.specs.Conversions.{fits}
use Rattle.wgsl_constants.specs.Values.{divided, is_zero}

-- a test decides a condition
abbrev Tests : Bool → Type 0 → Type 0
Tests b P = (b ≡ true → P) × (P → b ≡ true)

fits64 : (z : ℤ) → Tests (fits 63 z) (FitsSigned w64 z)
fits64 (pos n) = (λ e. record { sfits = ltb-true _ _ e }, λ h. lt-ltb _ _ h.sfits)
fits64 (negsuc n) = (λ e. record { sfits = ltb-true _ _ e }, λ h. lt-ltb _ _ h.sfits)

fits32 : (z : ℤ) → Tests (fits 31 z) (FitsSigned w32 z)
fits32 (pos n) = (λ e. record { sfits = ltb-true _ _ e }, λ h. lt-ltb _ _ h.sfits)
fits32 (negsuc n) = (λ e. record { sfits = ltb-true _ _ e }, λ h. lt-ltb _ _ h.sfits)

by_test : (P : Type 0) (v : ℤ) (b : Bool) → Tests b P → (o : Option ℤ) → SomeIff o P v → ok_or o Overflow ≡ fitting b v
by_test P v true t (Some x) is = ap Ok is.1
by_test P v false t (Some x) is = let no : false ≡ true = t.1 is.0 in cc no
by_test P v true t None is = absurd (is (t.0 refl))
by_test P v false t None is = refl

pub fitted : (v : ℤ) (o : Option ℤ) → SomeIff o (FitsSigned w64 v) v → ok_or o Overflow ≡ fitting (fits 63 v) v
fitted v = by_test (FitsSigned w64 v) v (fits 63 v) (fits64 v)

by_zero : (d : ℤ) → d ≡ pos 0 → is_zero d ≡ true
by_zero d e = rw e refl

not_true : (b : Bool) → (b ≡ true → ⊥) → b ≡ false
not_true true lacks = absurd (lacks refl)
not_true false lacks = refl

by_other : (d : ℤ) → d ≢ pos 0 → is_zero d ≡ false
by_other (pos n) other = not_true (nat_eq n 0) (λ e. other (ap pos (eqb-true n 0 e)))
by_other (negsuc n) other = refl

pub no_quotient : (d : ℤ) (r : Result ℤ IntegerError) → d ≡ pos 0 → Err DivisionByZero ≡ divided (is_zero d) r
no_quotient d r e = rw (by_zero d e) refl

pub quotient_64 : (a d v : ℤ) (o : Option ℤ) → d ≢ pos 0 → SomeIff o (FitsSigned w64 (int_div a d)) v → ok_or o Overflow ≡ divided (is_zero d) (fitting (fits 63 (int_div a d)) v)
quotient_64 a d v o other is = rw (by_other d other) (by_test (FitsSigned w64 (int_div a d)) v (fits 63 (int_div a d)) (fits64 (int_div a d)) o is)

pub quotient_32 : (a d v : ℤ) (o : Option ℤ) → d ≢ pos 0 → SomeIff o (FitsSigned w32 (int_div a d)) v → ok_or o Overflow ≡ divided (is_zero d) (fitting (fits 31 (int_div a d)) v)
quotient_32 a d v o other is = rw (by_other d other) (by_test (FitsSigned w32 (int_div a d)) v (fits 31 (int_div a d)) (fits32 (int_div a d)) o is)

pub quotient : (d v : ℕ) (o : Option ℕ) → SomeIff o (0 < d) v → ok_or o DivisionByZero ≡ divided (nat_eq d 0) (Ok v)
quotient d v (Some x) is = rw (not_true (nat_eq d 0) (λ e. omega (arith, is.0, eqb-true d 0 e))) (ap Ok is.1)
quotient zero v None is = refl
quotient (suc n) v None is = absurd (is (omega arith))
