-- The values of built-in functions on integers (WGSL, "Numeric Built-in Functions", "Logical Built-in Functions", "bitcast").
use Rattle.std.specs.Prelude.{ℕ, ◌+◌, ◌-◌, ◌*◌, ◌/◌, ◌%◌, ◌^◌, ℤ, ◌-ℤ◌, pos, Bool, true, false, cond, min, max, Result, Ok, Err, count_ones, int_lt, nat_eq, nat_lt, unsigned_abs}
use Rattle.std.specs.Int.{w32, w64, cast_signed, cast_unsigned, int_bit_not, int_max, int_min, int_signum, leading_zeros, reverse_bits, trailing_zeros}
use Rattle.std.specs.Ordering.{int_cmp, nat_cmp}
use Rattle.std.specs.declared.cmp.Ordering.{Ordering}
use Rattle.std.specs.declared.cmp.Ordering.TheVariants.{Less, Equal, Greater}
use Rattle.wgsl_constants.specs.declared.function.BitFunction.{BitFunction}
use Rattle.wgsl_constants.specs.declared.function.BitFunction.TheVariants as bit
use Rattle.wgsl_constants.specs.declared.integer.Integer.{Integer}
use Rattle.wgsl_constants.specs.declared.integer.Integer.TheVariants.{Abstract, I32, U32}
use Rattle.wgsl_constants.specs.declared.integer.IntegerPair.{IntegerPair}
use Rattle.wgsl_constants.specs.declared.integer.IntegerPair.TheVariants.{Abstract as BothAbstract, I32 as BothI32, U32 as BothU32}
use Rattle.wgsl_constants.specs.declared.integer.IntegerError.{IntegerError}
use Rattle.wgsl_constants.specs.declared.integer.IntegerError.TheVariants.{BitsTooFar, EmptyRange, NegatedUnsigned}
use Rattle.wgsl_constants.specs.Answers.{map_ok, then_ok}
use Rattle.wgsl_constants.specs.Conversions.{count_of, i32_of, pair, u32_of}

-- what holds of both integers in one type
abbrev pub of_pair : {A : Type 0} → (IntegerPair → A) → Integer → Integer → Result A IntegerError
of_pair value a b = map_ok value (pair a b)

-- how two integers of one type compare
abbrev pub comparison : IntegerPair → Ordering
comparison (BothAbstract a b) = int_cmp a b
comparison (BothI32 a b) = int_cmp a b
comparison (BothU32 a b) = nat_cmp a b

-- `min`, `max`, `select`
abbrev pub least : IntegerPair → Integer
least (BothAbstract a b) = Abstract (int_min a b)
least (BothI32 a b) = I32 (int_min a b)
least (BothU32 a b) = U32 (min a b)

abbrev pub greatest : IntegerPair → Integer
greatest (BothAbstract a b) = Abstract (int_max a b)
greatest (BothI32 a b) = I32 (int_max a b)
greatest (BothU32 a b) = U32 (max a b)

abbrev pub selected : Bool → IntegerPair → Integer
selected true (BothAbstract a b) = Abstract b
selected true (BothI32 a b) = I32 b
selected true (BothU32 a b) = U32 b
selected false (BothAbstract a b) = Abstract a
selected false (BothI32 a b) = I32 a
selected false (BothU32 a b) = U32 a

-- an integer between bounds that compare so: an error if the first is above the second
abbrev pub between : Integer → Integer → Integer → Ordering → Result Integer IntegerError
between a low high Greater = Err EmptyRange
between a low high Less = then_ok (of_pair greatest a low) (λ a. of_pair least a high)
between a low high Equal = then_ok (of_pair greatest a low) (λ a. of_pair least a high)

-- `clamp`
abbrev pub clamped : Integer → Integer → Integer → Result Integer IntegerError
clamped a low high = then_ok (of_pair comparison low high) (between a low high)

-- `abs`: for the least AbstractInt or `i32` it is that number
abbrev pub absolute : Integer → Result Integer IntegerError
absolute (Abstract n) = Ok (Abstract (cast_signed w64 (unsigned_abs n)))
absolute (I32 n) = Ok (I32 (cast_signed w32 (unsigned_abs n)))
absolute (U32 n) = Ok (U32 n)

-- `sign`, which a `u32` has not
abbrev pub sign : Integer → Result Integer IntegerError
sign (Abstract n) = Ok (Abstract (int_signum n))
sign (I32 n) = Ok (I32 (int_signum n))
sign (U32 n) = Err NegatedUnsigned

-- the bits of an `i32`, or of a `u32` if it is none
abbrev pub bits_of_either : Result ℤ IntegerError → Result ℕ IntegerError → Result ℕ IntegerError
bits_of_either (Ok n) other = Ok (cast_unsigned w32 n)
bits_of_either (Err e) other = other

-- `bitcast<u32>`: the bits of an integer, where an AbstractInt is an `i32` if it fits, else a `u32`
abbrev pub bits_of : Integer → Result ℕ IntegerError
bits_of (Abstract n) = bits_of_either (i32_of n) (u32_of n)
bits_of (I32 n) = Ok (cast_unsigned w32 n)
bits_of (U32 n) = Ok n

-- `bitcast<i32>`: an AbstractInt is an `i32`
abbrev pub signed_of : Integer → Result ℤ IntegerError
signed_of (Abstract n) = i32_of n
signed_of (I32 n) = Ok n
signed_of (U32 n) = Ok (cast_signed w32 n)

-- `countOneBits(7)` is 3, `countTrailingZeros(8u)` 3u, `firstTrailingBit(0u)` has all bits
abbrev pub of_u32 : BitFunction → ℕ → ℕ
of_u32 bit.CountLeadingZeros n = leading_zeros w32 n
of_u32 bit.CountOneBits n = count_ones n
of_u32 bit.CountTrailingZeros n = trailing_zeros w32 n
of_u32 bit.FirstTrailingBit n = cond (nat_eq n 0) (2 ^ 32 - 1) (trailing_zeros w32 n)
of_u32 bit.ReverseBits n = reverse_bits w32 n

abbrev pub of_i32 : BitFunction → ℤ → ℤ
of_i32 f n = cast_signed w32 (of_u32 f (cast_unsigned w32 n))

-- a function of bits has a value of its argument's type, where an AbstractInt is an `i32`
abbrev pub of_bits : BitFunction → Integer → Result Integer IntegerError
of_bits f (Abstract n) = map_ok (λ n. I32 (of_i32 f n)) (i32_of n)
of_bits f (I32 n) = Ok (I32 (of_i32 f n))
of_bits f (U32 n) = Ok (U32 (of_u32 f n))

-- the index of the highest bit that is 1, or all bits
abbrev pub first_bit : ℕ → ℕ
first_bit n = cond (nat_eq n 0) (2 ^ 32 - 1) (31 - leading_zeros w32 n)

-- the bits that differ from the sign
abbrev pub unlike_sign : ℤ → ℤ
unlike_sign n = cond (int_lt n (pos 0)) (int_bit_not w32 n) n

abbrev pub first_bit_of : ℤ → ℤ
first_bit_of n = cast_signed w32 (first_bit (cast_unsigned w32 (unlike_sign n)))

-- `firstLeadingBit`: an AbstractInt is an `i32`
abbrev pub leading_bit : Integer → Result Integer IntegerError
leading_bit (Abstract n) = map_ok (λ n. I32 (first_bit_of n)) (i32_of n)
leading_bit (I32 n) = Ok (I32 (first_bit_of n))
leading_bit (U32 n) = Ok (U32 (first_bit n))

-- the c bits from bit o on
abbrev pub field : ℕ → ℕ → ℕ → ℕ
field o c n = n / 2 ^ o % 2 ^ c

-- c bits, the highest of which is the sign
abbrev pub signed : ℕ → ℕ → ℤ
signed c n = cond (nat_lt (2 * n) (2 ^ c)) (pos n) (pos n -ℤ pos (2 ^ c))

abbrev pub field_i32 : ℕ → ℕ → ℤ → ℤ
field_i32 o c n = signed c (field o c (cast_unsigned w32 n))

-- what is made of c bits from bit o on, which a 32-bit integer has to have
abbrev pub of_field : {A : Type 0} → (ℕ → ℕ → Result A IntegerError) → Integer → Integer → Result A IntegerError
of_field f offset count = then_ok (count_of offset) (λ o. then_ok (count_of count) (λ c. cond (nat_lt 32 (o + c)) (Err BitsTooFar) (f o c)))

-- `extractBits(0xF0u, 4, 2)` is 3u, and an `i32` of the bits 11 is -1
abbrev pub extract : Integer → ℕ → ℕ → Result Integer IntegerError
extract (Abstract n) o c = map_ok (λ n. I32 (field_i32 o c n)) (i32_of n)
extract (I32 n) o c = Ok (I32 (field_i32 o c n))
extract (U32 n) o c = Ok (U32 (field o c n))

abbrev pub extracted : Integer → Integer → Integer → Result Integer IntegerError
extracted n offset count = of_field (extract n) offset count

-- n with the lowest c bits of m from bit o on
abbrev pub replaced : ℕ → ℕ → ℕ → ℕ → ℕ
replaced o c n m = n - field o c n * 2 ^ o + field 0 c m * 2 ^ o

unfoldable pub replaced_i32 : ℕ → ℕ → ℤ → ℤ → ℤ
replaced_i32 o c n m = cast_signed w32 (replaced o c (cast_unsigned w32 n) (cast_unsigned w32 m))

-- `insertBits(0u, 3, 4, 2)` is 48u
abbrev pub insert : ℕ → ℕ → IntegerPair → Result Integer IntegerError
insert o c (BothAbstract n m) = then_ok (i32_of n) (λ n. map_ok (λ m. I32 (replaced_i32 o c n m)) (i32_of m))
insert o c (BothI32 n m) = Ok (I32 (replaced_i32 o c n m))
insert o c (BothU32 n m) = Ok (U32 (replaced o c n m))

abbrev pub inserted : Integer → Integer → Integer → Integer → Result Integer IntegerError
inserted n m offset count = of_field (λ o c. then_ok (pair n m) (insert o c)) offset count
