-- The names of the structs that `frexp` and `modf` return (WGSL, "frexp" and "modf").
use Rattle.std.specs.Prelude.{ℕ, List, ◌++◌, codes}
use Rattle.wgsl_syntax.specs.declared.result_struct.ResultStruct.{ResultStruct}
use Rattle.wgsl_syntax.specs.declared.result_struct.ResultFunction.{ResultFunction}
use Rattle.wgsl_syntax.specs.declared.result_struct.ResultFunction.TheVariants.{Frexp, Modf}
use Rattle.wgsl_syntax.specs.declared.result_struct.ResultShape.{ResultShape}
use Rattle.wgsl_syntax.specs.declared.result_struct.ResultShape.TheVariants.{Scalar, Vec2, Vec3, Vec4}
use Rattle.wgsl_syntax.specs.declared.result_struct.ResultPrecision.{ResultPrecision}
use Rattle.wgsl_syntax.specs.declared.result_struct.ResultPrecision.TheVariants.{Abstract, F32, F16}

-- the part of the name before the shape
abbrev pub function_text : ResultFunction → List ℕ
function_text Frexp = codes "__frexp_result_"
function_text Modf = codes "__modf_result_"

-- for a scalar the name has no shape
abbrev pub shape_text : ResultShape → List ℕ
shape_text Scalar = codes ""
shape_text Vec2 = codes "vec2_"
shape_text Vec3 = codes "vec3_"
shape_text Vec4 = codes "vec4_"

abbrev pub precision_text : ResultPrecision → List ℕ
precision_text Abstract = codes "abstract"
precision_text F32 = codes "f32"
precision_text F16 = codes "f16"

abbrev pub result_name : ResultStruct → List ℕ
result_name r = function_text r.function ++ shape_text r.shape ++ precision_text r.precision
