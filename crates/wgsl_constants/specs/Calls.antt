-- The values of calls: which function has which value for its arguments (WGSL, "Value Constructor Built-in Functions", "bitcast",
-- "Logical Built-in Functions", "Numeric Built-in Functions").
use Rattle.std.specs.Prelude.{ℕ, ◌-◌, ◌^◌, ℤ, pos, negsuc, List, [], ◌∷◌, Bool, cond, Option, Some, None, Result, Ok, Err, codes, int_lt, nat_le, unsigned_abs}
use Rattle.std.specs.Result.{result_unwrap_or}
use Rattle.std.specs.Int.{w32, cast_signed, cast_unsigned}
use Rattle.wgsl_syntax.specs.Names.{named}
use Rattle.wgsl_syntax.specs.declared.scalar.Scalar.{Scalar}
use Rattle.wgsl_syntax.specs.declared.scalar.Scalar.TheVariants as scalars
use Rattle.wgsl_constants.specs.declared.integer.Integer.{Integer}
use Rattle.wgsl_constants.specs.declared.integer.Integer.TheVariants.{Abstract, I32, U32}
use Rattle.wgsl_constants.specs.declared.integer.IntegerError.{IntegerError}
use Rattle.wgsl_constants.specs.declared.constant.Constant.{Constant}
use Rattle.wgsl_constants.specs.declared.constant.Constant.TheVariants as c
use Rattle.wgsl_constants.specs.declared.call.Arguments.{Arguments}
use Rattle.wgsl_constants.specs.declared.call.Arguments.TheVariants.{Zero, One, Two, Three, Four}
use Rattle.wgsl_constants.specs.declared.call.CallError.{CallError}
use Rattle.wgsl_constants.specs.declared.call.CallError.TheVariants as error
use Rattle.wgsl_constants.specs.declared.call.Function.{Function}
use Rattle.wgsl_constants.specs.declared.call.Function.TheVariants as f
use Rattle.wgsl_constants.specs.Answers.{map_ok, then_ok}
use Rattle.wgsl_constants.specs.declared.function.BitFunction.TheVariants as bit
use Rattle.wgsl_constants.specs.Conversions.{i32_of, number, u32_of}
use Rattle.wgsl_constants.specs.Values.{complement_of, left_shift, negative, right_shift, value}
use Rattle.wgsl_constants.specs.Functions.{absolute, bits_of, clamped, extracted, greatest, inserted, leading_bit, least, of_bits, of_pair, selected, sign, signed_of}

-- the functions by their names; `bitcast` has its type in a list behind its name, and operators have none
abbrev pub function_names : List (Function × List ℕ)
function_names =
    (f.U32, codes "u32") ∷ (f.I32, codes "i32") ∷ (f.Abs, codes "abs") ∷ (f.Sign, codes "sign") ∷ (f.Min, codes "min") ∷
    (f.Max, codes "max") ∷ (f.Clamp, codes "clamp") ∷ (f.Select, codes "select") ∷ (f.F32, codes "f32") ∷ (f.F16, codes "f16") ∷
    (f.FirstLeadingBit, codes "firstLeadingBit") ∷ (f.ExtractBits, codes "extractBits") ∷ (f.InsertBits, codes "insertBits") ∷
    (f.All, codes "all") ∷ (f.Any, codes "any") ∷ (f.Bits bit.CountLeadingZeros, codes "countLeadingZeros") ∷
    (f.Bits bit.CountOneBits, codes "countOneBits") ∷ (f.Bits bit.CountTrailingZeros, codes "countTrailingZeros") ∷
    (f.Bits bit.FirstTrailingBit, codes "firstTrailingBit") ∷ (f.Bits bit.ReverseBits, codes "reverseBits") ∷ []

-- the function with this name
abbrev pub function_named : List ℕ → Option Function
function_named name = named function_names name

-- the function that converts to a scalar type
abbrev pub conversion : Scalar → Option Function
conversion scalars.U32 = Some f.U32
conversion scalars.I32 = Some f.I32
conversion scalars.F32 = Some f.F32
conversion scalars.F16 = Some f.F16
conversion other = None

-- `bitcast<u32>`, `bitcast<i32>`
abbrev pub bitcast : Scalar → Option Function
bitcast scalars.U32 = Some f.BitcastU32
bitcast scalars.I32 = Some f.BitcastI32
bitcast other = None

-- one argument more, of at most four
abbrev pub with_argument : Constant → Arguments → Option Arguments
with_argument x Zero = Some (One x)
with_argument x (One a) = Some (Two a x)
with_argument x (Two a b) = Some (Three a b x)
with_argument x (Three a b c) = Some (Four a b c x)
with_argument x (Four a b c d) = None

-- the error of a function on integers
abbrev pub by_integers : {A : Type 0} → Result A IntegerError → Result A CallError
by_integers (Ok value) = Ok value
by_integers (Err e) = Err (error.Integer e)

abbrev pub integer : Constant → Result Integer CallError
integer (c.Integer n) = Ok n
integer (c.Bool b) = Err error.NotInteger
integer (c.Float n) = Err error.NotInteger

abbrev pub test : Constant → Result Bool CallError
test (c.Integer n) = Err error.NotInteger
test (c.Bool b) = Ok b
test (c.Float n) = Err error.NotInteger

-- `u32(x)`, `i32(x)`: the bits of an integer, 0 or 1, or the value that is nearest to a float
abbrev pub to_u32 : Constant → Result ℕ CallError
to_u32 (c.Integer (Abstract n)) = by_integers (u32_of n)
to_u32 (c.Integer (I32 n)) = Ok (cast_unsigned w32 n)
to_u32 (c.Integer (U32 n)) = Ok n
to_u32 (c.Bool b) = Ok (cond b 1 0)
to_u32 (c.Float n) = Ok (result_unwrap_or (u32_of n) (cond (int_lt n (pos 0)) 0 (2 ^ 32 - 1)))

abbrev pub to_i32 : Constant → Result ℤ CallError
to_i32 (c.Integer (Abstract n)) = by_integers (i32_of n)
to_i32 (c.Integer (I32 n)) = Ok n
to_i32 (c.Integer (U32 n)) = Ok (cast_signed w32 n)
to_i32 (c.Bool b) = Ok (cond b (pos 1) (pos 0))
to_i32 (c.Float n) = Ok (result_unwrap_or (i32_of n) (cond (int_lt n (pos 0)) (negsuc (2 ^ 31 - 1)) (pos (2 ^ 31 - 1))))

-- the whole part of a value
abbrev pub whole_of : Constant → ℤ
whole_of (c.Integer n) = number n
whole_of (c.Bool b) = cond b (pos 1) (pos 0)
whole_of (c.Float n) = n

-- `f32(x)`: only where a float holds the whole part exactly, which is up to this one
abbrev pub to_float : ℕ → Constant → Result Constant CallError
to_float exact a = cond (nat_le (unsigned_abs (whole_of a)) exact) (Ok (c.Float (whole_of a))) (Err error.NotInteger)

-- what a function on one integer, or on two, makes of constants
abbrev pub of_integer : {A : Type 0} → (Integer → Result A IntegerError) → Constant → Result A CallError
of_integer value a = then_ok (integer a) (λ a. by_integers (value a))

abbrev pub of_integers : {A : Type 0} → (Integer → Integer → Result A IntegerError) → Constant → Constant → Result A CallError
of_integers value a b = then_ok (integer a) (λ a. of_integer (value a) b)

-- The table: without arguments, and of one to four

abbrev pub of_none : Function → Result Constant CallError
of_none f.U32 = Ok (c.Integer (U32 0))
of_none f.I32 = Ok (c.Integer (I32 (pos 0)))
of_none f.F32 = Ok (c.Float (pos 0))
of_none f.F16 = Ok (c.Float (pos 0))
of_none other = Err error.WrongArgumentCount

abbrev pub integer_of : Function → Constant → Result Integer CallError
integer_of f.U32 a = map_ok U32 (to_u32 a)
integer_of f.I32 a = map_ok I32 (to_i32 a)
integer_of f.BitcastU32 a = map_ok U32 (of_integer bits_of a)
integer_of f.BitcastI32 a = map_ok I32 (of_integer signed_of a)
integer_of f.Negation a = of_integer negative a
integer_of f.Complement a = map_ok complement_of (integer a)
integer_of f.Abs a = of_integer absolute a
integer_of f.Sign a = of_integer sign a
integer_of f.FirstLeadingBit a = of_integer leading_bit a
integer_of (f.Bits g) a = of_integer (of_bits g) a
integer_of other a = Err error.WrongArgumentCount

abbrev pub of_one : Function → Constant → Result Constant CallError
of_one f.F32 a = to_float (2 ^ 24) a
of_one f.F16 a = to_float (2 ^ 11) a
of_one f.All a = map_ok c.Bool (test a)
of_one f.Any a = map_ok c.Bool (test a)
of_one f a = map_ok c.Integer (integer_of f a)

abbrev pub of_two : Function → Constant → Constant → Result Integer CallError
of_two (f.Operator op) a b = of_integers (value op) a b
of_two f.ShiftLeft a b = of_integers left_shift a b
of_two f.ShiftRight a b = of_integers right_shift a b
of_two f.Min a b = of_integers (of_pair least) a b
of_two f.Max a b = of_integers (of_pair greatest) a b
of_two other a b = Err error.WrongArgumentCount

-- `clamp(a, low, high)`, `select(a, b, test)`, `extractBits(a, offset, count)`
abbrev pub of_three : Function → Constant → Constant → Constant → Result Integer CallError
of_three f.Clamp a b c = then_ok (integer a) (λ a. of_integers (clamped a) b c)
of_three f.Select a b c = then_ok (integer a) (λ a. then_ok (integer b) (λ b. then_ok (test c) (λ t. by_integers (of_pair (selected t) a b))))
of_three f.ExtractBits a b c = then_ok (integer a) (λ a. of_integers (extracted a) b c)
of_three other a b c = Err error.WrongArgumentCount

-- `insertBits(a, bits, offset, count)`
abbrev pub of_four : Function → Constant → Constant → Constant → Constant → Result Integer CallError
of_four f.InsertBits a b c d = then_ok (integer a) (λ a. then_ok (integer b) (λ b. of_integers (inserted a b) c d))
of_four other a b c d = Err error.WrongArgumentCount

-- the value of a call
abbrev pub called : Function → Arguments → Result Constant CallError
called f Zero = of_none f
called f (One a) = of_one f a
called f (Two a b) = map_ok c.Integer (of_two f a b)
called f (Three x y z) = map_ok c.Integer (of_three f x y z)
called f (Four x y z w) = map_ok c.Integer (of_four f x y z w)
