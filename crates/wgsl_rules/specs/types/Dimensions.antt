-- Scalars, vectors and matrices by their dimensions.
use Rattle.wgsl_syntax.specs.declared.overload.Dimensions.{Dimensions}
use Rattle.wgsl_syntax.specs.declared.overload.Dimensions.TheVariants.{Single, Vector, Matrix}
use Rattle.wgsl_rules.specs.types.Types.{WgslType, vec, mat}

-- the element itself, or a vector or a matrix of it
abbrev pub with_dimensions : Dimensions → WgslType → WgslType
with_dimensions Single t = t
with_dimensions (Vector n) t = vec n t
with_dimensions (Matrix c r) t = mat c r t
