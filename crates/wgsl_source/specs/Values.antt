-- The values of operators, components and literals, and values in their types (WGSL, "Literals", "Expressions", "Conversion Rank").
use Rattle.std.specs.Prelude.{◌≡◌, ℕ, ℤ, List, Bool, Option, Some, None, cond, option_map}
use Rattle.std.specs.Float.{float_to_signed}
use Rattle.std.specs.Float.Ieee.{Format, binary32, binary64}
use Rattle.std.specs.Float.Parse.{parse_float}
use Rattle.std.specs.Int.{w64}
use Rattle.wgsl_constants.specs.Calls.{called}
use Rattle.wgsl_constants.specs.Conversions.{number}
use Rattle.wgsl_constants.specs.Literals.{ends_with, found, integer_of, then, without_last}
use Rattle.wgsl_constants.specs.Values.{map_value}
use Rattle.wgsl_constants.specs.Vectors.{alike, element as element_of, like, member as member_of, zero_of}
use Rattle.wgsl_constants.specs.declared.call.Arguments.TheVariants.{One}
use Rattle.wgsl_constants.specs.declared.call.Function.{Function}
use Rattle.wgsl_constants.specs.declared.call.Function.TheVariants as f
use Rattle.wgsl_constants.specs.declared.constant.Constant.{Constant}
use Rattle.wgsl_constants.specs.declared.constant.Constant.TheVariants as constant
use Rattle.wgsl_constants.specs.declared.integer.Integer.{Integer}
use Rattle.wgsl_constants.specs.declared.integer.Integer.TheVariants.{Abstract}
use Rattle.wgsl_constants.specs.declared.vector.Vector.{Vector}
use Rattle.wgsl_reader.specs.declared.kind.Kind.{Kind}
use Rattle.wgsl_reader.specs.declared.token.Token.{Token}
use Rattle.wgsl_spelling.specs.Values.{beside, binary_value, binary_vectors, bool_of, unary_value, unary_vector}
use Rattle.wgsl_spelling.specs.Words.{word}
use Rattle.wgsl_syntax.specs.declared.scalar.Scalar.{Scalar}
use Rattle.wgsl_syntax.specs.declared.scalar.Scalar.TheVariants as scalars
use Rattle.wgsl_source.specs.declared.measured.MeasuredType.{MeasuredType}
use Rattle.wgsl_source.specs.declared.measured.TypeKind.{TypeKind}
use Rattle.wgsl_source.specs.declared.measured.TypeKind.TheVariants as kind
use Rattle.wgsl_source.specs.declared.text.Text.{Text}
use Rattle.wgsl_source.specs.declared.value.Value.{Value}
use Rattle.wgsl_source.specs.declared.value.Value.TheVariants as value

-- Literals

-- the whole part of the nearest float to decimal digits, with a point and an exponent, as the nearest integer of 64 bits
abbrev pub whole_of : Format → List ℕ → Option ℤ
whole_of format digits = option_map (float_to_signed w64) (parse_float format digits)

-- `1.5f` is a float of 32 bits; `1.5` and `1.5h` are read as one of 64
abbrev pub whole_part : List ℕ → Option ℤ
whole_part text =
    cond (ends_with 102 text) (whole_of binary32 (without_last text))
    (cond (ends_with 104 text) (whole_of binary64 (without_last text)) (whole_of binary64 text))

-- a number: `4u`. Of a float the whole part is kept.
abbrev pub IsNumber : List ℕ → Constant → Type 0
IsNumber text (constant.Integer i) = integer_of text ≡ Some i
IsNumber text (constant.Bool b) = ⊥
IsNumber text (constant.Float whole) = (integer_of text ≡ None) × (whole_part text ≡ Some whole)

-- `true`, or a number
abbrev pub IsLiteralBy : Option Bool → List ℕ → Constant → Type 0
IsLiteralBy (Some b) text x = x ≡ constant.Bool b
IsLiteralBy None text x = IsNumber text x

abbrev pub IsLiteral : Text → Token → Value → Type 0
IsLiteral t token (value.Known x) = IsLiteralBy (bool_of token.kind) (word t.text.now token) x
IsLiteral t token v = ⊥

-- Operators

-- `-4`, `~4`, `!true`, `-vec2(4, 1)`
abbrev pub unary : Kind → Value → Option Value
unary sign (value.Known a) = map_value value.Known (unary_value sign a)
unary sign (value.Vector v) = map_value value.Vector (unary_vector sign v)
unary sign value.Later = Some value.Later

-- `2 * 4`, `1 < 2`, `vec2(4, 1) + vec2(1, 2)`, `vec2(4, 1) + 2`: known later, if an operand is
abbrev pub binary : Kind → Value → Value → Option Value
binary sign value.Later b = Some value.Later
binary sign a value.Later = Some value.Later
binary sign (value.Known a) (value.Known b) = map_value value.Known (binary_value sign a b)
binary sign (value.Vector v) (value.Vector w) = map_value value.Vector (binary_vectors sign v w)
binary sign (value.Vector v) (value.Known b) = then (beside sign b v) (λ w. map_value value.Vector (binary_vectors sign v w))
binary sign (value.Known a) (value.Vector w) = then (beside sign a w) (λ v. map_value value.Vector (binary_vectors sign v w))

-- Components

abbrev pub one : Integer → Value
one i = value.Known (constant.Integer i)

-- `vec2(4, 1).x`
abbrev pub member : List ℕ → Value → Option Value
member letter (value.Vector v) = map_value one (member_of letter v)
member letter other = None

-- `vec2(4, 1)[0]`
abbrev pub element : Value → Value → Option Value
element (value.Vector v) (value.Known (constant.Integer i)) = map_value one (element_of (number i) v)
element v other = None

-- Types of constants

-- a vector in this type
abbrev pub vector_in : Scalar → Vector → Option Value
vector_in s v = then (zero_of s) (λ zero. map_value value.Vector (found (like zero v)))

-- the function that makes a float of a constant which converts to this type
abbrev pub float_of : Scalar → Constant → Option Function
float_of scalars.F32 (constant.Integer (Abstract n)) = Some f.F32
float_of scalars.F32 (constant.Float n) = Some f.F32
float_of scalars.F16 (constant.Integer (Abstract n)) = Some f.F16
float_of scalars.F16 (constant.Float n) = Some f.F16
float_of s x = None

abbrev pub float_in : Scalar → Constant → Option Constant
float_in s x = then (float_of s x) (λ function. found (called function (One x)))

abbrev pub integer_in : Option Integer → Scalar → Integer → Option Constant
integer_in (Some zero) s i = map_value constant.Integer (found (alike i zero))
integer_in None s i = float_in s (constant.Integer i)

abbrev pub bool_in : Scalar → Bool → Option Constant
bool_in scalars.Bool b = Some (constant.Bool b)
bool_in other b = None

abbrev pub constant_in : Constant → Scalar → Option Constant
constant_in (constant.Integer i) s = integer_in (zero_of s) s i
constant_in (constant.Bool b) s = bool_in s b
constant_in (constant.Float n) s = float_in s (constant.Float n)

-- a value in a type to which it converts
abbrev pub converted : TypeKind → Value → Option Value
converted (kind.Scalar s) (value.Known x) = map_value value.Known (constant_in x s)
converted (kind.Vector n s) (value.Vector v) = vector_in s v
converted kind v = None

abbrev pub known : Value → Option Value
known value.Later = None
known v = Some v

-- the value that a constant has of that of its expression, in its type if one is declared
abbrev pub in_type : Option MeasuredType → Value → Option Value
in_type (Some ty) v = converted ty.kind v
in_type None v = known v
