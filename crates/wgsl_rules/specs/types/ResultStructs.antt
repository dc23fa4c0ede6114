-- The structs that `frexp` and `modf` return (WGSL, "frexp" and "modf").
use Rattle.std.specs.Prelude.{ℕ, List, ◌++◌, None, codes}
use Rattle.wgsl_syntax.specs.declared.scalar.Scalar.{Scalar}
use Rattle.wgsl_syntax.specs.declared.scalar.Scalar.TheVariants.{AbstractInt, AbstractFloat, I32, F32, F16}
use Rattle.wgsl_syntax.specs.declared.result_struct.ResultFunction.{ResultFunction}
use Rattle.wgsl_syntax.specs.declared.result_struct.ResultFunction.TheVariants.{Frexp, Modf}
use Rattle.wgsl_syntax.specs.declared.result_struct.ResultShape.{ResultShape}
use Rattle.wgsl_syntax.specs.declared.result_struct.ResultShape.TheVariants as shape
use Rattle.wgsl_syntax.specs.declared.result_struct.ResultPrecision.{ResultPrecision}
use Rattle.wgsl_syntax.specs.declared.result_struct.ResultPrecision.TheVariants as precision
use Rattle.wgsl_syntax.specs.ResultStruct.{function_text, shape_text, precision_text}
use Rattle.wgsl_rules.specs.types.Types.{WgslType, scalar, struct, vec, Members, no_members, member}

-- the type itself, or a vector of it, by the shape
abbrev pub shaped : ResultShape → WgslType → WgslType
shaped shape.Scalar t = t
shaped shape.Vec2 t = vec 2 t
shaped shape.Vec3 t = vec 3 t
shaped shape.Vec4 t = vec 4 t

-- the scalar inside the function's argument
abbrev pub float_of : ResultPrecision → Scalar
float_of precision.Abstract = AbstractFloat
float_of precision.F32 = F32
float_of precision.F16 = F16

-- the scalar inside the exponent that `frexp` returns
abbrev pub exponent_of : ResultPrecision → Scalar
exponent_of precision.Abstract = AbstractInt
exponent_of precision.F32 = I32
exponent_of precision.F16 = I32

abbrev pub plain_member : List ℕ → WgslType → Members → Members
plain_member name t rest = member name t None None rest

abbrev pub result_members : ResultFunction → ResultShape → ResultPrecision → Members
-- `frexp` returns a fraction and an exponent
result_members Frexp s p =
    plain_member (codes "fract") (shaped s (scalar (float_of p)))
    (plain_member (codes "exp") (shaped s (scalar (exponent_of p))) no_members)
-- `modf` returns a fraction and a whole part
result_members Modf s p =
    plain_member (codes "fract") (shaped s (scalar (float_of p)))
    (plain_member (codes "whole") (shaped s (scalar (float_of p))) no_members)

unfoldable pub result_struct : ResultFunction → ResultShape → ResultPrecision → WgslType
result_struct f s p = struct (function_text f ++ (shape_text s ++ precision_text p)) (result_members f s p)
