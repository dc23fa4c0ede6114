-- The conversions of integers (WGSL, "Feasible Automatic Conversion", "Value Constructor Built-in Functions").
use Rattle.std.specs.Prelude.{ℕ, ◌^◌, ℤ, pos, negsuc, Bool, false, Result, Ok, Err, nat_lt, unsigned_abs}
use Rattle.wgsl_constants.specs.declared.integer.Integer.{Integer}
use Rattle.wgsl_constants.specs.declared.integer.Integer.TheVariants.{Abstract, I32, U32}
use Rattle.wgsl_constants.specs.declared.integer.IntegerPair.{IntegerPair}
use Rattle.wgsl_constants.specs.declared.integer.IntegerPair.TheVariants.{Abstract as BothAbstract, I32 as BothI32, U32 as BothU32}
use Rattle.wgsl_constants.specs.declared.integer.IntegerError.{IntegerError}
use Rattle.wgsl_constants.specs.declared.integer.IntegerError.TheVariants.{MixedTypes}
use Rattle.wgsl_constants.specs.Answers.{fitting, map_ok}

-- an integer has a sign and this number of other bits
abbrev pub fits : ℕ → ℤ → Bool
fits bits (pos n) = nat_lt n (2 ^ bits)
fits bits (negsuc n) = nat_lt n (2 ^ bits)

-- the same without a sign
abbrev pub fits_unsigned : ℕ → ℤ → Bool
fits_unsigned bits (pos n) = nat_lt n (2 ^ bits)
fits_unsigned bits (negsuc n) = false

-- an integer without its type
abbrev pub number : Integer → ℤ
number (Abstract n) = n
number (I32 n) = n
number (U32 n) = pos n

-- an AbstractInt as an `i32`, and as a `u32`. `u32(-1)` is an overflow
abbrev pub i32_of : ℤ → Result ℤ IntegerError
i32_of n = fitting (fits 31 n) n

abbrev pub u32_of : ℤ → Result ℕ IntegerError
u32_of n = fitting (fits_unsigned 32 n) (unsigned_abs n)

-- a number of bits is a `u32`: `1 << 2i` is an error
abbrev pub count_of : Integer → Result ℕ IntegerError
count_of (Abstract k) = u32_of k
count_of (I32 k) = Err MixedTypes
count_of (U32 k) = Ok k

-- both integers in one type: an AbstractInt converts to the type of the other
abbrev pub pair : Integer → Integer → Result IntegerPair IntegerError
pair (Abstract a) (Abstract b) = Ok (BothAbstract a b)
pair (Abstract a) (I32 b) = map_ok (λ a. BothI32 a b) (i32_of a)
pair (I32 a) (Abstract b) = map_ok (BothI32 a) (i32_of b)
pair (I32 a) (I32 b) = Ok (BothI32 a b)
pair (Abstract a) (U32 b) = map_ok (λ a. BothU32 a b) (u32_of a)
pair (U32 a) (Abstract b) = map_ok (BothU32 a) (u32_of b)
pair (U32 a) (U32 b) = Ok (BothU32 a b)
pair (I32 a) (U32 b) = Err MixedTypes
pair (U32 a) (I32 b) = Err MixedTypes
