-- Which result structs are those of abstract floats.
use Rattle.std.specs.Prelude.{Option, Some, None}
use Rattle.wgsl_standard.specs.forms.Prelude.{ResultFunction, ResultShape}
use Rattle.wgsl_syntax.specs.declared.result_struct.ResultPrecision.{ResultPrecision}
use Rattle.wgsl_syntax.specs.declared.result_struct.ResultPrecision.TheVariants as precision
use Rattle.wgsl_syntax.specs.declared.result_struct.ResultStruct.{ResultStruct}

abbrev of_precision : ResultPrecision → ResultFunction × ResultShape → Option (ResultFunction × ResultShape)
of_precision precision.Abstract r = Some r
of_precision p r = None

-- the function and the shape, if the precision is that of an abstract float
abbrev pub abstract_name : ResultStruct → Option (ResultFunction × ResultShape)
abstract_name r = of_precision r.precision (r.function, r.shape)

-- the result struct of that function and shape for `f32`
abbrev pub in_f32 : ResultFunction × ResultShape → ResultStruct
in_f32 r = record { function = r.0; shape = r.1; precision = precision.F32 }
