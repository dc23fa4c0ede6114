-- The values of operators on integers (WGSL, "Arithmetic Expressions", "Bit Expressions"), or why there is none.
use Rattle.std.specs.Prelude.{ℕ, ◌+◌, ◌-◌, ◌*◌, ◌/◌, ◌%◌, ◌^◌, ℤ, pos, negsuc, ◌+ℤ◌, ◌-ℤ◌, ◌*ℤ◌, neg_ℤ, Bool, false, cond, Option, Some, None, Result, Ok, Err, nat_eq, nat_lt, int_div, int_rem, bit_and, bit_or, bit_xor}
use Rattle.std.specs.Int.{w32, w64, int_wrap, int_shr, int_bit_and, int_bit_not, int_bit_or, int_bit_xor, bit_not}
use Rattle.wgsl_constants.specs.declared.integer.Integer.{Integer}
use Rattle.wgsl_constants.specs.declared.integer.Integer.TheVariants.{Abstract, I32, U32}
use Rattle.wgsl_constants.specs.declared.integer.IntegerPair.{IntegerPair}
use Rattle.wgsl_constants.specs.declared.integer.IntegerPair.TheVariants.{Abstract as BothAbstract, I32 as BothI32, U32 as BothU32}
use Rattle.wgsl_constants.specs.declared.integer.IntegerOperator.{IntegerOperator}
use Rattle.wgsl_constants.specs.declared.integer.IntegerOperator.TheVariants.{Addition, Subtraction, Multiplication, Division, Remainder, BitwiseOr, BitwiseAnd, BitwiseXor}
use Rattle.wgsl_constants.specs.declared.integer.IntegerError.{IntegerError}
use Rattle.wgsl_constants.specs.declared.integer.IntegerError.TheVariants.{DivisionByZero, NegatedUnsigned, ShiftTooFar}
use Rattle.wgsl_constants.specs.Answers.{fitting, map_ok, then_ok}
use Rattle.wgsl_constants.specs.Conversions.{count_of, fits, i32_of, pair, u32_of}

abbrev pub map_value : {A B : Type 0} → (A → B) → Option A → Option B
map_value f None = None
map_value f (Some a) = Some (f a)

abbrev pub is_zero : ℤ → Bool
is_zero (pos n) = nat_eq n 0
is_zero (negsuc n) = false

-- a quotient or a rest, whose divisor may not be 0
abbrev pub divided : {A : Type 0} → Bool → Result A IntegerError → Result A IntegerError
divided zero r = cond zero (Err DivisionByZero) r

-- AbstractInt: the exact value, if it fits in 64 bits. `/` and `%` round toward zero.
abbrev pub abstract_value : IntegerOperator → ℤ → ℤ → Result ℤ IntegerError
abstract_value Addition a b = fitting (fits 63 (a +ℤ b)) (a +ℤ b)
abstract_value Subtraction a b = fitting (fits 63 (a -ℤ b)) (a -ℤ b)
abstract_value Multiplication a b = fitting (fits 63 (a *ℤ b)) (a *ℤ b)
abstract_value Division a b = divided (is_zero b) (fitting (fits 63 (int_div a b)) (int_div a b))
abstract_value Remainder a b = divided (is_zero b) (fitting (fits 63 (int_div a b)) (int_rem a b))
abstract_value BitwiseOr a b = Ok (int_bit_or w64 a b)
abstract_value BitwiseAnd a b = Ok (int_bit_and w64 a b)
abstract_value BitwiseXor a b = Ok (int_bit_xor w64 a b)

-- `i32`: what is left of the value in 32 bits. `2147483647i + 1i` is -2147483648
abbrev pub i32_value : IntegerOperator → ℤ → ℤ → Result ℤ IntegerError
i32_value Addition a b = Ok (int_wrap w32 (a +ℤ b))
i32_value Subtraction a b = Ok (int_wrap w32 (a -ℤ b))
i32_value Multiplication a b = Ok (int_wrap w32 (a *ℤ b))
i32_value Division a b = divided (is_zero b) (fitting (fits 31 (int_div a b)) (int_div a b))
i32_value Remainder a b = divided (is_zero b) (fitting (fits 31 (int_div a b)) (int_rem a b))
i32_value BitwiseOr a b = Ok (int_bit_or w32 a b)
i32_value BitwiseAnd a b = Ok (int_bit_and w32 a b)
i32_value BitwiseXor a b = Ok (int_bit_xor w32 a b)

-- `u32`: the value modulo 2^32. `1u - 2u` is 4294967295
abbrev pub u32_value : IntegerOperator → ℕ → ℕ → Result ℕ IntegerError
u32_value Addition a b = Ok ((a + b) % 2 ^ 32)
u32_value Subtraction a b = Ok ((a + (2 ^ 32 - b)) % 2 ^ 32)
u32_value Multiplication a b = Ok ((a * b) % 2 ^ 32)
u32_value Division a b = divided (nat_eq b 0) (Ok (a / b))
u32_value Remainder a b = divided (nat_eq b 0) (Ok (a % b))
u32_value BitwiseOr a b = Ok (bit_or a b)
u32_value BitwiseAnd a b = Ok (bit_and a b)
u32_value BitwiseXor a b = Ok (bit_xor a b)

-- the value of an operator for two integers of one type has that type
abbrev pub pair_value : IntegerOperator → IntegerPair → Result Integer IntegerError
pair_value op (BothAbstract a b) = map_ok Abstract (abstract_value op a b)
pair_value op (BothI32 a b) = map_ok I32 (i32_value op a b)
pair_value op (BothU32 a b) = map_ok U32 (u32_value op a b)

-- the value of an operator other than a shift: both operands first convert to one type
abbrev pub value : IntegerOperator → Integer → Integer → Result Integer IntegerError
value op a b = then_ok (pair a b) (pair_value op)

-- `<<` by k bits: the value times 2^k, which the type has to hold. `1 << 63` is an overflow
abbrev pub abstract_shift : ℤ → ℕ → Result ℤ IntegerError
abstract_shift n k = fitting (fits 63 (n *ℤ pos (2 ^ k))) (n *ℤ pos (2 ^ k))

-- an `i32` or a `u32` is shifted by fewer than 32 bits
abbrev pub near : {A : Type 0} → ℕ → Result A IntegerError → Result A IntegerError
near k r = cond (nat_lt k 32) r (Err ShiftTooFar)

abbrev pub shifted_left : Integer → ℕ → Result Integer IntegerError
shifted_left (Abstract n) k = map_ok Abstract (abstract_shift n k)
shifted_left (I32 n) k = map_ok I32 (near k (i32_of (n *ℤ pos (2 ^ k))))
shifted_left (U32 n) k = map_ok U32 (near k (u32_of (pos (n * 2 ^ k))))

-- `>>` by k bits: a value divided by 2^k, rounded down. `-16 >> 200` is -1
abbrev pub shifted_right : Integer → ℕ → Result Integer IntegerError
shifted_right (Abstract n) k = Ok (Abstract (int_shr n k))
shifted_right (I32 n) k = near k (Ok (I32 (int_shr n k)))
shifted_right (U32 n) k = near k (Ok (U32 (n / 2 ^ k)))

abbrev pub left_shift : Integer → Integer → Result Integer IntegerError
left_shift n k = then_ok (count_of k) (shifted_left n)

abbrev pub right_shift : Integer → Integer → Result Integer IntegerError
right_shift n k = then_ok (count_of k) (shifted_right n)

-- `-`: for the least AbstractInt or `i32` it is that number, as `-(-2147483647i - 1i)` is -2147483648. A `u32` has no negative
abbrev pub negative : Integer → Result Integer IntegerError
negative (Abstract n) = Ok (Abstract (int_wrap w64 (neg_ℤ n)))
negative (I32 n) = Ok (I32 (int_wrap w32 (neg_ℤ n)))
negative (U32 n) = Err NegatedUnsigned

-- `~`
abbrev pub complement_of : Integer → Integer
complement_of (Abstract n) = Abstract (int_bit_not w64 n)
complement_of (I32 n) = I32 (int_bit_not w32 n)
complement_of (U32 n) = U32 (bit_not w32 n)
