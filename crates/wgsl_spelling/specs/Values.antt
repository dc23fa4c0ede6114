-- The values of literals and operators in counts, and the counts themselves.
use Rattle.std.specs.Prelude.{ℕ, pos, negsuc, ◌-ℤ◌, List, Bool, true, false, cond, not, ◌&&◌, ◌||◌, Option, Some, None}
use Rattle.std.specs.Int.{w64, saturate_signed}
use Rattle.std.specs.Ordering.{is_eq, is_ge, is_gt, is_le, is_lt, is_ne}
use Rattle.std.specs.declared.cmp.Ordering.{Ordering}
use Rattle.wgsl_reader.specs.declared.kind.Kind.{Kind}
use Rattle.wgsl_reader.specs.declared.kind.Kind.TheVariants as k
use Rattle.wgsl_constants.specs.Calls.{integer as integer_in}
use Rattle.wgsl_constants.specs.Functions.{comparison, of_pair}
use Rattle.wgsl_constants.specs.Literals.{found, integer_of, then, type_of_number}
use Rattle.wgsl_constants.specs.Values.{complement_of, map_value, negative}
use Rattle.wgsl_constants.specs.Vectors.{each, each_of_two, filled, made_of_two}
use Rattle.wgsl_constants.specs.declared.call.Function.{Function}
use Rattle.wgsl_constants.specs.declared.call.Function.TheVariants as f
use Rattle.wgsl_constants.specs.declared.constant.Constant.{Constant}
use Rattle.wgsl_constants.specs.declared.constant.Constant.TheVariants as c
use Rattle.wgsl_constants.specs.declared.integer.Integer.{Integer}
use Rattle.wgsl_constants.specs.declared.integer.Integer.TheVariants.{Abstract, I32, U32}
use Rattle.wgsl_constants.specs.declared.integer.IntegerOperator.TheVariants.{Addition, Subtraction, Multiplication, Division, Remainder, BitwiseOr, BitwiseAnd, BitwiseXor}
use Rattle.wgsl_constants.specs.declared.vector.Vector.{Vector}
use Rattle.wgsl_syntax.specs.declared.scalar.Scalar.{Scalar}
use Rattle.wgsl_syntax.specs.declared.scalar.Scalar.TheVariants.{Bool as TheBool}
use Rattle.wgsl_spelling.specs.declared.item.Item.{Item}
use Rattle.wgsl_spelling.specs.declared.item.Value.{Value}
use Rattle.wgsl_spelling.specs.declared.item.Value.TheVariants as v
use Rattle.wgsl_spelling.specs.Items.{constant, integer, item}
use Rattle.wgsl_spelling.specs.Words.{word}
use Rattle.wgsl_spelling.specs.declared.value.Comparison.{Comparison}
use Rattle.wgsl_spelling.specs.declared.value.Comparison.TheVariants as test
use Rattle.wgsl_reader.specs.declared.token.Token.{Token}

-- a number of elements: 0 is one, -1 is none
abbrev pub count_of : Integer → Option ℕ
count_of (Abstract (pos n)) = Some n
count_of (Abstract (negsuc n)) = None
count_of (I32 (pos n)) = Some n
count_of (I32 (negsuc n)) = None
count_of (U32 n) = Some n

abbrev pub count : Item → Option ℕ
count i = then (integer i) count_of

-- Literals

abbrev pub bool_of : Kind → Option Bool
bool_of k.True = Some true
bool_of k.False = Some false
bool_of other = None

abbrev pub literal_by : Option Bool → List ℕ → Option Constant
literal_by (Some b) text = Some (c.Bool b)
literal_by None text = map_value c.Integer (integer_of text)

abbrev pub type_by : Option Bool → List ℕ → Scalar
type_by (Some b) text = TheBool
type_by None text = type_of_number text

-- the type of a literal, by the kind of its token
abbrev pub type_of_literal : Kind → List ℕ → Scalar
type_of_literal kind text = type_by (bool_of kind) text

-- `4u`, `true`
abbrev pub literal : List ℕ → Token → Option Constant
literal text t = literal_by (bool_of t.kind) (word text t)

-- Operators

-- the operator that an item is, or the end
abbrev pub sign_in : Value → Kind
sign_in (v.Sign kind) = kind
sign_in other = k.End

-- `-4`, `~4`, `!true`
abbrev pub unary_value : Kind → Constant → Option Constant
unary_value k.Minus (c.Integer a) = map_value c.Integer (found (negative a))
unary_value k.Minus (c.Float a) = Some (c.Float (saturate_signed w64 (pos 0 -ℤ a)))
unary_value k.Tilde (c.Integer a) = Some (c.Integer (complement_of a))
unary_value k.Bang (c.Bool b) = Some (c.Bool (not b))
unary_value other a = None

-- the operator that makes an integer of two
abbrev pub operator_of : Kind → Option Function
operator_of k.Plus = Some (f.Operator Addition)
operator_of k.Minus = Some (f.Operator Subtraction)
operator_of k.Star = Some (f.Operator Multiplication)
operator_of k.Slash = Some (f.Operator Division)
operator_of k.Percent = Some (f.Operator Remainder)
operator_of k.Or = Some (f.Operator BitwiseOr)
operator_of k.And = Some (f.Operator BitwiseAnd)
operator_of k.Xor = Some (f.Operator BitwiseXor)
operator_of k.ShiftLeft = Some f.ShiftLeft
operator_of k.ShiftRight = Some f.ShiftRight
operator_of other = None

-- `2 + 2`, `1 << 2`
abbrev pub sign_value : Kind → Integer → Integer → Option Integer
sign_value kind a b = then (operator_of kind) (λ op. found (made_of_two op a b))

abbrev pub comparison_of : Kind → Option Comparison
comparison_of k.EqualEqual = Some test.Equal
comparison_of k.NotEqual = Some test.NotEqual
comparison_of k.Less = Some test.Less
comparison_of k.LessEqual = Some test.LessEqual
comparison_of k.Greater = Some test.Greater
comparison_of k.GreaterEqual = Some test.GreaterEqual
comparison_of other = None

abbrev pub holds : Comparison → Ordering → Bool
holds test.Equal o = is_eq o
holds test.NotEqual o = is_ne o
holds test.Less o = is_lt o
holds test.LessEqual o = is_le o
holds test.Greater o = is_gt o
holds test.GreaterEqual o = is_ge o

abbrev pub compared : Comparison → Integer → Integer → Option Constant
compared test a b = map_value (λ o. c.Bool (holds test o)) (found (of_pair comparison a b))

-- `2 + 2`, `1 < 2`
abbrev pub of_integers : Option Comparison → Kind → Integer → Integer → Option Constant
of_integers (Some test) kind a b = compared test a b
of_integers None kind a b = map_value c.Integer (sign_value kind a b)

-- `true && false`
abbrev pub of_bools : Kind → Bool → Bool → Option Bool
of_bools k.AndAnd a b = Some (a && b)
of_bools k.And a b = Some (a && b)
of_bools k.OrOr a b = Some (a || b)
of_bools k.Or a b = Some (a || b)
of_bools k.EqualEqual a b = Some (cond a b (not b))
of_bools k.NotEqual a b = Some (cond a (not b) b)
of_bools other a b = None

abbrev pub binary_value : Kind → Constant → Constant → Option Constant
binary_value kind (c.Integer a) (c.Integer b) = of_integers (comparison_of kind) kind a b
binary_value kind (c.Bool a) (c.Bool b) = map_value c.Bool (of_bools kind a b)
binary_value kind a b = None

-- Operators on vectors, component by component

-- `-vec2(1, 2)`, `~vec2(1, 2)`
abbrev pub unary_vector : Kind → Vector → Option Vector
unary_vector k.Minus v = found (each f.Negation v)
unary_vector k.Tilde v = found (each f.Complement v)
unary_vector other v = None

-- `vec2(1, 2) + vec2(3, 4)`
abbrev pub binary_vectors : Kind → Vector → Vector → Option Vector
binary_vectors kind v w = then (operator_of kind) (λ op. found (each_of_two op v w))

-- `vec2(1, 2) + 1`: arithmetic takes an integer beside a vector, as if it were one as long
abbrev pub is_arithmetic : Kind → Bool
is_arithmetic k.Plus = true
is_arithmetic k.Minus = true
is_arithmetic k.Star = true
is_arithmetic k.Slash = true
is_arithmetic k.Percent = true
is_arithmetic other = false

abbrev pub beside : Kind → Constant → Vector → Option Vector
beside kind x v = cond (is_arithmetic kind) (map_value (λ n. filled n v) (found (integer_in x))) None

-- the item of a value, which begins with this one
abbrev pub valued : Item → Constant → Item
valued first x = item first.token (v.Constant x)

abbrev pub unary : Item → Item → Option Item
unary operator operand = then (constant operand) (λ a. map_value (valued operator) (unary_value (sign_in operator.value) a))

-- where a value with an operator is told: a test at the operator, which makes no integer
abbrev pub first_of : Item → Item → Constant → Item
first_of left operator (c.Integer n) = left
first_of left operator (c.Bool b) = operator
first_of left operator (c.Float n) = left

abbrev pub binary : Item → Item → Item → Option Item
binary left operator right =
    then (constant left) (λ a. then (constant right) (λ b. map_value (λ x. valued (first_of left operator x) x) (binary_value (sign_in operator.value) a b)))
