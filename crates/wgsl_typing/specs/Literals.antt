-- What literals are (WGSL, "Literals").
use Rattle.std.specs.Prelude.{◌≡◌, ℕ, List, [], Bool, Option, Some, None, cond}
use Rattle.wgsl_rules.specs.types.Types.{WgslType, scalar}
use Rattle.wgsl_syntax.specs.declared.scalar.Scalar.{Scalar}
use Rattle.wgsl_syntax.specs.declared.scalar.Scalar.TheVariants as scalars
use Rattle.wgsl_constants.specs.Literals.{integer_of, type_of_number}
use Rattle.wgsl_constants.specs.Values.{map_value}
use Rattle.wgsl_constants.specs.declared.constant.Constant.TheVariants as constants
use Rattle.wgsl_constants.specs.declared.integer.Integer.{Integer}
use Rattle.wgsl_constants.specs.declared.integer.Integer.TheVariants.{Abstract, I32, U32}
use Rattle.wgsl_standard.specs.declared.forms.form.Referent.TheVariants.{Whole}
use Rattle.wgsl_typing.specs.Faults.{last_of}
use Rattle.wgsl_typing.specs.declared.known.Outcome.{Outcome}
use Rattle.wgsl_typing.specs.declared.known.Outcome.TheVariants as outcomes
use Rattle.wgsl_typing.specs.declared.stage.Stage.TheVariants.{Const}
use Rattle.wgsl_typing.specs.declared.value.Value.{Value}
use Rattle.wgsl_typing.specs.declared.value.Value.TheVariants.{One}
use Rattle.wgsl_reader.specs.declared.kind.Kind.{Kind}
use Rattle.wgsl_spelling.specs.Names.{or_else}
use Rattle.wgsl_spelling.specs.Values.{bool_of}
use Rattle.wgsl_typing.specs.Names.{HasValue, word_in}
use Rattle.wgsl_typing.specs.Outcomes.{HasType}
use Rattle.wgsl_typing.specs.Stacks.{Puts, Stack}
use Rattle.wgsl_typing.specs.Words.{kind_at}

-- `1.5` : AbstractFloat, `2e3f` : f32, `0x1p4h` : f16, which is there where it is enabled
abbrev pub float_type : Bool → Scalar → Option Scalar
float_type f16 scalars.AbstractFloat = Some scalars.AbstractFloat
float_type f16 scalars.F32 = Some scalars.F32
float_type f16 scalars.F16 = cond f16 (Some scalars.F16) None
float_type f16 other = None

-- `42` : AbstractInt, `42i` : i32, `42u` : u32
abbrev pub integer_type : Integer → Scalar
integer_type (Abstract n) = scalars.AbstractInt
integer_type (I32 n) = scalars.I32
integer_type (U32 n) = scalars.U32

-- the type and, of all but floats, the value
abbrev pub a_bool : Bool → WgslType × Option Value
a_bool b = (scalar scalars.Bool, Some (One (constants.Bool b)))

abbrev pub an_integer : Integer → WgslType × Option Value
an_integer n = (scalar (integer_type n), Some (One (constants.Integer n)))

abbrev pub a_float : Scalar → WgslType × Option Value
a_float s = (scalar s, None)

abbrev pub number : Bool → List ℕ → Option (WgslType × Option Value)
number f16 text = or_else (map_value an_integer (integer_of text)) (map_value a_float (float_type f16 (type_of_number text)))

abbrev pub literal : Bool → Kind → List ℕ → Option (WgslType × Option Value)
literal f16 kind text = or_else (map_value a_bool (bool_of kind)) (number f16 text)

-- a const-expression; faulty if the text is no literal, or its type can't hold the value
abbrev pub IsLiteral : Option (WgslType × Option Value) → Outcome → Type 0
IsLiteral (Some x) o = HasType x.0 Const Whole o × HasValue x.1 o
IsLiteral None o = o ≡ outcomes.Faulty

-- `1.5`, `true`
abbrev pub Literal : ℕ → Stack → Stack → Type 0
Literal at s r = Puts s.items [] (last_of at) (IsLiteral (literal s.context.extensions.f16 (kind_at s.context.tokens at) (word_in s.context at))) s r
