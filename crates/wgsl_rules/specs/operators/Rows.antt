-- What the binary operators return, row by row, by the common type of two types (WGSL, "Logical Expressions" to "Bit
-- Expressions").
use Rattle.std.specs.Prelude.{ℕ, Some}
use Rattle.wgsl_syntax.specs.declared.scalar.Scalar.{Scalar}
use Rattle.wgsl_syntax.specs.declared.scalar.Scalar.TheVariants.{Bool, U32}
use Rattle.wgsl_syntax.specs.declared.operator.BinaryOperator.{BinaryOperator}
use Rattle.wgsl_syntax.specs.declared.operator.BinaryOperator.TheVariants.{Multiplication}
use Rattle.wgsl_rules.specs.types.Types.{WgslType, scalar, vec, mat}
use Rattle.wgsl_rules.specs.types.Kinds.{IsInteger, IsIntegerOrVector}
use Rattle.wgsl_rules.specs.conversion.Conversion.{ConvertsTo}
use Rattle.wgsl_rules.specs.conversion.Common.{IsCommon}
use Rattle.wgsl_rules.specs.operators.Candidates.{IsArithmetic, IsSum, IsComparison, IsLogical, IsBitwise, IsOrAnd, IsShift}

-- an operator, its two operands, the two types that they convert to, and the result
pub data IsRow : BinaryOperator → WgslType → WgslType → WgslType → WgslType → WgslType → Type 0 where
  -- arithmetic of two scalars: their common type
  -- AbstractInt + f32 : f32
  scalar_row : (o : BinaryOperator) → IsArithmetic o → (s t : Scalar) (c : WgslType) → IsCommon (scalar s) (scalar t) (Some c) →
      IsRow o (scalar s) (scalar t) c c c
  -- of two vectors: their common type
  -- vec3<AbstractInt> * vec3<f32> : vec3<f32>
  vector_row : (o : BinaryOperator) → IsArithmetic o → (n m : ℕ) (e f c : WgslType) → IsCommon (vec n e) (vec m f) (Some c) →
      IsRow o (vec n e) (vec m f) c c c
  -- of a scalar and a vector, in either order: the vector of the common type of the scalar and the component
  -- AbstractInt + vec3<f32> : vec3<f32>
  scalar_vector_row : (o : BinaryOperator) → IsArithmetic o → (s : Scalar) (n : ℕ) (e c : WgslType) → IsCommon (scalar s) e (Some c) →
      IsRow o (scalar s) (vec n e) c (vec n c) (vec n c)
  -- vec2<AbstractInt> / f32 : vec2<f32>
  vector_scalar_row : (o : BinaryOperator) → IsArithmetic o → (n : ℕ) (e : WgslType) (s : Scalar) (c : WgslType) → IsCommon e (scalar s) (Some c) →
      IsRow o (vec n e) (scalar s) (vec n c) c (vec n c)
  -- the sum or difference of two matrices of the same shape: the matrix of the common type of their components
  -- mat2x3<AbstractFloat> - mat2x3<f16> : mat2x3<f16>
  matrix_row : (o : BinaryOperator) → IsSum o → (c r : ℕ) (e f d : WgslType) → IsCommon e f (Some d) →
      IsRow o (mat c r e) (mat c r f) (mat c r d) (mat c r d) (mat c r d)
  -- the product of a scalar and a matrix, in either order
  -- AbstractInt * mat2x3<f32> : mat2x3<f32>
  scalar_matrix_row : (s : Scalar) (c r : ℕ) (e d : WgslType) → IsCommon (scalar s) e (Some d) →
      IsRow Multiplication (scalar s) (mat c r e) d (mat c r d) (mat c r d)
  -- mat2x3<AbstractFloat> * f16 : mat2x3<f16>
  matrix_scalar_row : (c r : ℕ) (e : WgslType) (s : Scalar) (d : WgslType) → IsCommon e (scalar s) (Some d) →
      IsRow Multiplication (mat c r e) (scalar s) (mat c r d) d (mat c r d)
  -- of a vector and a matrix, with as many components as rows
  -- vec3<f32> * mat2x3<f32> : vec2<f32>
  vector_matrix_row : (c r : ℕ) (e f d : WgslType) → IsCommon e f (Some d) →
      IsRow Multiplication (vec r e) (mat c r f) (vec r d) (mat c r d) (vec c d)
  -- of a matrix and a vector, with as many columns as components
  -- mat2x3<AbstractFloat> * vec2<f16> : vec3<f16>
  matrix_vector_row : (c r : ℕ) (e f d : WgslType) → IsCommon e f (Some d) →
      IsRow Multiplication (mat c r e) (vec c f) (mat c r d) (vec c d) (vec r d)
  -- of two matrices, if the first has as many columns as the second has rows
  -- mat2x3<f32> * mat4x2<f32> : mat4x3<f32>
  matrix_matrix_row : (k c r : ℕ) (e f d : WgslType) → IsCommon e f (Some d) →
      IsRow Multiplication (mat k r e) (mat c k f) (mat k r d) (mat c k d) (mat c r d)
  -- comparison, if the common type is a scalar: `bool`
  -- AbstractInt < f32 : bool
  comparison_row : (o : BinaryOperator) → IsComparison o → (a b : WgslType) (s : Scalar) → IsCommon a b (Some (scalar s)) →
      IsRow o a b (scalar s) (scalar s) (scalar Bool)
  -- if the common type is a vector: a vector of `bool`
  -- vec3<f32> == vec3<AbstractFloat> : vec3<bool>
  comparison_vector_row : (o : BinaryOperator) → IsComparison o → (a b : WgslType) (n : ℕ) (e : WgslType) → IsCommon a b (Some (vec n e)) →
      IsRow o a b (vec n e) (vec n e) (vec n (scalar Bool))
  -- the short-circuit operators, `||` and `&&`, of two `bool`
  -- bool && bool : bool
  logical_row : (o : BinaryOperator) → IsLogical o → IsRow o (scalar Bool) (scalar Bool) (scalar Bool) (scalar Bool) (scalar Bool)
  -- `|` and `&`, if the common type is a vector of `bool`
  -- vec2<bool> | vec2<bool> : vec2<bool>
  bools_row : (o : BinaryOperator) → IsOrAnd o → (n : ℕ) (a b : WgslType) → IsCommon a b (Some (vec n (scalar Bool))) →
      IsRow o a b (vec n (scalar Bool)) (vec n (scalar Bool)) (vec n (scalar Bool))
  -- bitwise operators, if the common type is an integer or a vector of integers
  -- AbstractInt ^ u32 : u32
  bit_row : (o : BinaryOperator) → IsBitwise o → (a b c : WgslType) → IsCommon a b (Some c) → IsIntegerOrVector c →
      IsRow o a b c c c
  -- an integer shifted by a type that converts to `u32`: its own type
  -- i32 << AbstractInt : i32
  shift_row : (o : BinaryOperator) → IsShift o → (i : Scalar) → IsInteger i → (t : WgslType) → ConvertsTo t (scalar U32) →
      IsRow o (scalar i) t (scalar i) (scalar U32) (scalar i)
  -- a vector of integers shifted by a vector of as many components that convert to `u32`: its own type
  -- vec3<i32> >> vec3<AbstractInt> : vec3<i32>
  shift_vector_row : (o : BinaryOperator) → IsShift o → (n : ℕ) (i : Scalar) → IsInteger i → (t : WgslType) → ConvertsTo t (scalar U32) →
      IsRow o (vec n (scalar i)) (vec n t) (vec n (scalar i)) (vec n (scalar U32)) (vec n (scalar i))
