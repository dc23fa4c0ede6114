-- The tree of the types that take part in single conversions (WGSL, "Conversion Rank").
use Rattle.std.specs.Prelude.{ℕ, Option, Some, None}
use Rattle.wgsl_syntax.specs.declared.scalar.Scalar.{Scalar}
use Rattle.wgsl_syntax.specs.declared.scalar.Scalar.TheVariants.{AbstractInt, AbstractFloat, I32, U32, F32, F16, I64, U64}
use Rattle.wgsl_syntax.specs.declared.result_struct.ResultFunction.{ResultFunction}
use Rattle.wgsl_syntax.specs.declared.result_struct.ResultShape.{ResultShape}
use Rattle.wgsl_syntax.specs.declared.result_struct.ResultPrecision.{ResultPrecision}
use Rattle.wgsl_syntax.specs.declared.result_struct.ResultPrecision.TheVariants as precision
use Rattle.wgsl_rules.specs.types.Types.{WgslType, scalar}
use Rattle.wgsl_rules.specs.types.ResultStructs.{result_struct}

-- a scalar, or a result struct of `frexp` or `modf`
pub data Node : Type 0 where
  at_scalar : Scalar → Node
  at_result : ResultFunction → ResultShape → ResultPrecision → Node

-- the type at a node
abbrev pub type_at : Node → WgslType
type_at (at_scalar s) = scalar s
type_at (at_result f s p) = result_struct f s p

-- the node from which a single conversion leads here
abbrev pub parent_of : Node → Option Node
parent_of (at_scalar I32) = Some (at_scalar AbstractInt)
parent_of (at_scalar U32) = Some (at_scalar AbstractInt)
parent_of (at_scalar I64) = Some (at_scalar AbstractInt)
parent_of (at_scalar U64) = Some (at_scalar AbstractInt)
parent_of (at_scalar AbstractFloat) = Some (at_scalar AbstractInt)
parent_of (at_scalar F32) = Some (at_scalar AbstractFloat)
parent_of (at_scalar F16) = Some (at_scalar AbstractFloat)
parent_of (at_scalar s) = None
parent_of (at_result f s precision.F32) = Some (at_result f s precision.Abstract)
parent_of (at_result f s precision.F16) = Some (at_result f s precision.Abstract)
parent_of (at_result f s precision.Abstract) = None

-- the rank of the conversion from `AbstractInt` to a scalar, and 0 of a scalar without a parent
abbrev pub scalar_depth : Scalar → ℕ
scalar_depth I32 = 3
scalar_depth U32 = 4
scalar_depth AbstractFloat = 5
scalar_depth F32 = 6
scalar_depth F16 = 7
scalar_depth I64 = 8
scalar_depth U64 = 9
scalar_depth s = 0

-- the same from a result struct for an abstract float
abbrev pub precision_depth : ResultPrecision → ℕ
precision_depth precision.Abstract = 0
precision_depth precision.F32 = 1
precision_depth precision.F16 = 2

-- the weight of the path from the root to the node
abbrev pub rank_from_root : Node → ℕ
rank_from_root (at_scalar s) = scalar_depth s
rank_from_root (at_result f s p) = precision_depth p
