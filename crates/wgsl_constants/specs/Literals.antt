-- Literals of integers, and the types of all numbers (WGSL, "Numeric Literals").
use Rattle.std.specs.Prelude.{ℕ, ◌+◌, ◌*◌, ◌^◌, pos, Bool, true, false, List, [], ◌∷◌, ◌&&◌, ◌||◌, cond, Option, Some, None, Result, Ok, Err, nat_eq, nat_lt, nat_le, not, drop, length, take, get_or, ◌-◌}
use Rattle.std.specs.Char.{digit_value}
use Rattle.std.specs.List.{list_any}
use Rattle.wgsl_constants.specs.declared.integer.Integer.{Integer}
use Rattle.wgsl_constants.specs.declared.integer.Integer.TheVariants.{Abstract, I32, U32}
use Rattle.wgsl_syntax.specs.declared.scalar.Scalar.{Scalar}
use Rattle.wgsl_syntax.specs.declared.scalar.Scalar.TheVariants as scalars

-- the value, if there is one
abbrev pub found : {A E : Type 0} → Result A E → Option A
found (Ok value) = Some value
found (Err error) = None

abbrev pub then : {A B : Type 0} → Option A → (A → Option B) → Option B
then None f = None
then (Some a) f = f a

-- a number with one digit more, if it has at most 64 bits
abbrev pub appended : Option ℕ → ℕ → ℕ → Option ℕ
appended None base digit = None
appended (Some n) base digit = cond (nat_lt (n * base + digit) (2 ^ 64)) (Some (n * base + digit)) None

-- the number that is read so far, and digits of the base behind it
abbrev pub behind : ℕ → Option ℕ → List ℕ → Option ℕ
behind base n [] = n
behind base n (digit ∷ digits) = cond (nat_lt (digit_value digit) base) (behind base (appended n base (digit_value digit)) digits) None

-- no digits, or a zero in front of others in a decimal literal: `007`
abbrev pub is_wrong : ℕ → List ℕ → Bool
is_wrong base [] = true
is_wrong base (digit ∷ []) = false
is_wrong base (first ∷ second ∷ digits) = nat_eq base 10 && nat_eq first 48

-- the number that digits stand for, if it has at most 64 bits
abbrev pub number : ℕ → List ℕ → Option ℕ
number base digits = cond (is_wrong base digits) None (behind base (Some 0) digits)

abbrev pub as_abstract : ℕ → Option Integer
as_abstract n = cond (nat_lt n (2 ^ 63)) (Some (Abstract (pos n))) None

abbrev pub as_i32 : ℕ → Option Integer
as_i32 n = cond (nat_lt n (2 ^ 31)) (Some (I32 (pos n))) None

abbrev pub as_u32 : ℕ → Option Integer
as_u32 n = cond (nat_lt n (2 ^ 32)) (Some (U32 n)) None

-- a text ends with this byte
abbrev pub ends_with : ℕ → List ℕ → Bool
ends_with byte text = nat_le 1 (length text) && nat_eq (get_or text (length text - 1) 0) byte

abbrev pub without_last : List ℕ → List ℕ
without_last text = take (length text - 1) text

-- `42`, `42i`, `42u`
abbrev pub suffixed : ℕ → List ℕ → Option Integer
suffixed base digits =
    cond (ends_with 105 digits) (then (number base (without_last digits)) as_i32)
    (cond (ends_with 117 digits) (then (number base (without_last digits)) as_u32)
    (then (number base digits) as_abstract))

-- `0x` or `0X`
abbrev pub is_hexadecimal : List ℕ → Bool
is_hexadecimal (first ∷ second ∷ rest) = nat_eq first 48 && (nat_eq second 120 || nat_eq second 88)
is_hexadecimal short = false

-- the integer that a literal stands for: `42`, `0x2Au`. A float stands for none.
abbrev pub integer_of : List ℕ → Option Integer
integer_of literal = cond (is_hexadecimal literal) (suffixed 16 (drop 2 literal)) (suffixed 10 literal)

-- Types

-- `p`, `P`
abbrev pub is_binary_exponent : ℕ → Bool
is_binary_exponent byte = nat_eq byte 112 || nat_eq byte 80

-- `.`, `e`, `E`, `p`, `P`
abbrev pub is_float_sign : ℕ → Bool
is_float_sign byte = nat_eq byte 46 || nat_eq byte 101 || nat_eq byte 69 || is_binary_exponent byte

-- `0x1F`, `0x1.8f`: without an exponent, `e` and `f` are digits
abbrev pub has_digits_alone : List ℕ → Bool
has_digits_alone number = is_hexadecimal number && not (list_any is_binary_exponent number)

-- `1`, `0x1.8`, `1e3`
abbrev pub abstract_type : Bool → Scalar
abstract_type is_float = cond is_float scalars.AbstractFloat scalars.AbstractInt

-- `1.5f`, `1h`, `0x1p3f`, `1.5`
abbrev pub type_by_suffix : List ℕ → Scalar
type_by_suffix number =
    cond (ends_with 102 number) scalars.F32 (cond (ends_with 104 number) scalars.F16 (abstract_type (list_any is_float_sign number)))

-- the type of a number: `1u`, `1i`, or another
abbrev pub type_of_number : List ℕ → Scalar
type_of_number number =
    cond (ends_with 117 number) scalars.U32 (cond (ends_with 105 number) scalars.I32
    (cond (has_digits_alone number) (abstract_type (list_any (λ byte. nat_eq byte 46) number)) (type_by_suffix number)))
