-- How the structs that `frexp` and `modf` return are recognised.
use Rattle.std.specs.Prelude.{◌≡◌, ℕ, List, ◌==◌, Option, Some, None, codes, if◌then◌else◌, option_and_then, option_map}
use Rattle.std.specs.Str.{bytes_eq}
use Rattle.wgsl_syntax.specs.declared.scalar.Scalar.{Scalar}
use Rattle.wgsl_syntax.specs.declared.scalar.Scalar.TheVariants.{AbstractFloat, F32, F16}
use Rattle.wgsl_syntax.specs.declared.result_struct.ResultFunction.{ResultFunction}
use Rattle.wgsl_syntax.specs.declared.result_struct.ResultFunction.TheVariants.{Frexp, Modf}
use Rattle.wgsl_syntax.specs.declared.result_struct.ResultShape.{ResultShape}
use Rattle.wgsl_syntax.specs.declared.result_struct.ResultShape.TheVariants as shape
use Rattle.wgsl_syntax.specs.declared.result_struct.ResultPrecision.{ResultPrecision}
use Rattle.wgsl_syntax.specs.declared.result_struct.ResultPrecision.TheVariants as precision
use Rattle.wgsl_syntax.specs.declared.result_struct.ResultStruct.{ResultStruct}
use Rattle.wgsl_syntax.specs.ResultStruct.{result_name}
use Rattle.wgsl_rules.specs.types.Types.{WgslType, scalar, vec}
use Rattle.wgsl_rules.specs.types.ResultStructs.{shaped, float_of, exponent_of}
use Rattle.wgsl_core.specs.View.{Member}
use Rattle.wgsl_core.specs.ResultStruct.{plain}

-- the second member of a result struct
abbrev pub second_member : ResultFunction → ResultShape → ResultPrecision → Member
second_member Frexp s p = plain (codes "exp") (shaped s (scalar (exponent_of p)))
second_member Modf s p = plain (codes "whole") (shaped s (scalar (float_of p)))

-- the name and the two members are those of the result struct
abbrev pub IsResult : List ℕ → Member → Member → ResultStruct → Type 0
IsResult name first second r =
    (name ≡ result_name r) × (first ≡ plain (codes "fract") (shaped r.shape (scalar (float_of r.precision)))) × (second ≡ second_member r.function r.shape r.precision)

-- precision and shape by the first member's type, the function by the second member's name

abbrev pub precision_at : Scalar → Option ResultPrecision
precision_at AbstractFloat = Some precision.Abstract
precision_at F32 = Some precision.F32
precision_at F16 = Some precision.F16
precision_at s = None

abbrev pub shape_at : ℕ → Option ResultShape
shape_at n = if n == 2 then Some shape.Vec2 else (if n == 3 then Some shape.Vec3 else (if n == 4 then Some shape.Vec4 else None))

abbrev pub shape_in : WgslType → Option (ResultShape × ResultPrecision)
shape_in (scalar s) = option_map (λ p. (shape.Scalar, p)) (precision_at s)
shape_in (vec n (scalar s)) = option_and_then (λ k. option_map (λ p. (k, p)) (precision_at s)) (shape_at n)
shape_in t = None

abbrev pub function_at : List ℕ → Option ResultFunction
function_at name = if bytes_eq name (codes "exp") then Some Frexp else (if bytes_eq name (codes "whole") then Some Modf else None)
