-- The scalar, the vector or the matrix that an overload returns.
use Rattle.std.specs.Prelude.{Option, Some, None}
use Rattle.wgsl_standard.specs.forms.Prelude.{Scalar, component_in, dimensions_in, result_of}
use Rattle.wgsl_syntax.specs.declared.overload.Dimensions.{Dimensions}
use Rattle.wgsl_syntax.specs.declared.overload.Substitution.{Substitution}
use Rattle.wgsl_syntax.specs.declared.overload.Overload.{Overload}
use Rattle.wgsl_syntax.specs.declared.overload.Pattern.TheVariants as patterns
use Rattle.wgsl_syntax.specs.declared.overload.Returns.{Returns}
use Rattle.wgsl_syntax.specs.declared.overload.Returns.TheVariants.{Gives}

-- `vecN<T>` where N is 3 and T is f32: three components, which are f32; None of a texture, a struct or nothing
abbrev pub value_returned : Substitution → Returns → Option (Dimensions × Scalar)
value_returned i (Gives (patterns.Value s e)) = Some (dimensions_in i s, component_in i e)
value_returned i r = None

abbrev pub result_value : Substitution → Overload → Option (Dimensions × Scalar)
result_value i o = value_returned i (result_of o)
