-- Values in types to which their own convert (WGSL, "Conversion Rank").
use Rattle.std.specs.Prelude.{ℕ, ℤ, pos, negsuc, Bool, Option, Some, None, Result, Ok, Err, cond, nat_le, nat_lt}
use Rattle.wgsl_core.specs.Forms.{scalar_of}
use Rattle.wgsl_rules.specs.types.Types.{WgslType, scalar, vec}
use Rattle.wgsl_syntax.specs.declared.scalar.Scalar.{Scalar}
use Rattle.wgsl_syntax.specs.declared.scalar.Scalar.TheVariants as scalars
use Rattle.wgsl_constants.specs.Literals.{found, then}
use Rattle.wgsl_constants.specs.Values.{map_value}
use Rattle.wgsl_constants.specs.Vectors.{alike, like, zero_of}
use Rattle.wgsl_constants.specs.declared.constant.Constant.{Constant}
use Rattle.wgsl_constants.specs.declared.constant.Constant.TheVariants as constants
use Rattle.wgsl_constants.specs.declared.integer.Integer.{Integer}
use Rattle.wgsl_constants.specs.declared.integer.Integer.TheVariants.{Abstract}
use Rattle.wgsl_constants.specs.declared.vector.Vector.{Vector}
use Rattle.wgsl_typing.specs.declared.value.Value.{Value}
use Rattle.wgsl_typing.specs.declared.value.Value.TheVariants.{One, Several, Elements}

-- what is computed, unless it is out of range
abbrev pub computed : {A E : Type 0} → Result (Option A) E → Option A
computed (Ok value) = value
computed (Err e) = None

-- an f16 holds it, rounded
abbrev pub is_half : ℤ → Bool
is_half (pos n) = nat_le n 65519
is_half (negsuc n) = nat_lt n 65519

-- `1` in `vec2f(1, 0)`
abbrev pub float_in : Scalar → ℤ → Option Constant
float_in scalars.AbstractFloat n = Some (constants.Float n)
float_in scalars.F32 n = Some (constants.Float n)
float_in scalars.F16 n = cond (is_half n) (Some (constants.Float n)) None
float_in s n = None

abbrev pub integer_by : Scalar → Option Integer → Integer → Option Constant
integer_by s (Some zero) n = map_value constants.Integer (found (alike n zero))
integer_by s None (Abstract n) = float_in s n
integer_by s None n = None

-- an integer: in a type of integers or of floats
abbrev pub integer_in_type : Scalar → Integer → Option Constant
integer_in_type s n = integer_by s (zero_of s) n

abbrev pub bool_in : Scalar → Constant → Option Constant
bool_in scalars.Bool x = Some x
bool_in s x = None

abbrev pub constant_in : Scalar → Constant → Option Constant
constant_in s (constants.Integer n) = integer_in_type s n
constant_in s (constants.Bool b) = bool_in s (constants.Bool b)
constant_in s (constants.Float n) = Some (constants.Float n)

-- a vector of integers: one of floats isn't computed
abbrev pub vector_in : Option Scalar → Vector → Option Value
vector_in s x = then s (λ s. then (zero_of s) (λ zero. map_value Several (found (like zero x))))

-- A value in a type to which its own converts. Those of elements and members are converted where they are taken.
abbrev pub in_type : WgslType → Value → Option Value
in_type t (Elements which) = Some (Elements which)
in_type (scalar s) (One x) = map_value One (constant_in s x)
in_type (vec n t) (Several x) = vector_in (scalar_of t) x
in_type t value = None
