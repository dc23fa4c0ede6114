-- A type in the parts that overloads speak of.
use Rattle.std.specs.Prelude.{Option, Some, None, option_map}
use Rattle.wgsl_syntax.specs.declared.scalar.Scalar.{Scalar}
use Rattle.wgsl_syntax.specs.declared.overload.Dimensions.{Dimensions}
use Rattle.wgsl_syntax.specs.declared.overload.Dimensions.TheVariants.{Single, Vector, Matrix}
use Rattle.wgsl_rules.specs.types.Types.{WgslType, scalar, within, vec_of, mat_of}
use Rattle.wgsl_core.specs.Forms.{scalar_of}

-- the dimensions and the components of a scalar, or of a vector or a matrix of scalars
abbrev pub parts_of : WgslType → Option (Dimensions × Scalar)
parts_of (scalar s) = Some (Single, s)
parts_of (within (vec_of n) t) = option_map (λ s. (Vector n, s)) (scalar_of t)
parts_of (within (mat_of c r) t) = option_map (λ s. (Matrix c r, s)) (scalar_of t)
parts_of t = None
