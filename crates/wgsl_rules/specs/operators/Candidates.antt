-- The candidates of the binary operators, and of the built-in functions that return a common type (WGSL, "Logical
-- Expressions" to "Bit Expressions", and "Built-in Functions").
use Rattle.std.specs.Prelude.{ℕ, List, [], ◌∷◌}
use Rattle.wgsl_syntax.specs.declared.scalar.Scalar.{Scalar}
use Rattle.wgsl_syntax.specs.declared.scalar.Scalar.TheVariants.{Bool, U32}
use Rattle.wgsl_syntax.specs.declared.operator.BinaryOperator.{BinaryOperator}
use Rattle.wgsl_syntax.specs.declared.operator.BinaryOperator.TheVariants.{ShortCircuitOr, ShortCircuitAnd, Addition, Subtraction, Multiplication, Division, Remainder, Equality, Inequality, LessThan, LessThanEqual, GreaterThan, GreaterThanEqual, BitwiseOr, BitwiseAnd, BitwiseXor, ShiftLeft, ShiftRight}
use Rattle.wgsl_rules.specs.types.Types.{WgslType, scalar, vec, mat}
use Rattle.wgsl_rules.specs.types.Kinds.{IsInteger, IsFloat, IsNumeric, IsNumericOrVector, IsFloatOrVector, IsScalarOrVector}
use Rattle.wgsl_rules.specs.types.Inner.{inner_of}
use Rattle.wgsl_rules.specs.conversion.Concrete.{concretized}
pub use Rattle.wgsl_rules.specs.operators.Names.{Name, operator, min, max, atan2, step, pow, cross, reflect, distance, dot, clamp, fma, smoothstep, face_forward, mix, refract, select, insert_bits, IsOfTwo, IsOfThree, IsFor, IsMixed}

-- the short-circuit operators, `||` and `&&`
abbrev pub IsLogical : BinaryOperator → Type 0
IsLogical ShortCircuitOr = Unit {0}
IsLogical ShortCircuitAnd = Unit {0}
IsLogical o = ⊥

-- `+`, `-`, `*`, `/` and `%`
abbrev pub IsArithmetic : BinaryOperator → Type 0
IsArithmetic Addition = Unit {0}
IsArithmetic Subtraction = Unit {0}
IsArithmetic Multiplication = Unit {0}
IsArithmetic Division = Unit {0}
IsArithmetic Remainder = Unit {0}
IsArithmetic o = ⊥

-- `+` and `-`, which take two matrices component by component
abbrev pub IsSum : BinaryOperator → Type 0
IsSum Addition = Unit {0}
IsSum Subtraction = Unit {0}
IsSum o = ⊥

-- `==`, `!=`, `<`, `<=`, `>` and `>=`
abbrev pub IsComparison : BinaryOperator → Type 0
IsComparison Equality = Unit {0}
IsComparison Inequality = Unit {0}
IsComparison LessThan = Unit {0}
IsComparison LessThanEqual = Unit {0}
IsComparison GreaterThan = Unit {0}
IsComparison GreaterThanEqual = Unit {0}
IsComparison o = ⊥

-- `|`, `&` and `^`
abbrev pub IsBitwise : BinaryOperator → Type 0
IsBitwise BitwiseOr = Unit {0}
IsBitwise BitwiseAnd = Unit {0}
IsBitwise BitwiseXor = Unit {0}
IsBitwise o = ⊥

-- `|` and `&`, which take vectors of `bool` too
abbrev pub IsOrAnd : BinaryOperator → Type 0
IsOrAnd BitwiseOr = Unit {0}
IsOrAnd BitwiseAnd = Unit {0}
IsOrAnd o = ⊥

-- `<<` and `>>`
abbrev pub IsShift : BinaryOperator → Type 0
IsShift ShiftLeft = Unit {0}
IsShift ShiftRight = Unit {0}
IsShift o = ⊥

-- A candidate: a name, the types of its parameters, and the type of its result. `Choice` says which operands convert to
-- the parameters.
pub data IsCandidate : Name → List WgslType → WgslType → Type 0 where
  -- arithmetic of two scalars of the same type
  -- f32 + f32 : f32
  scalars : (o : BinaryOperator) → IsArithmetic o → (s : Scalar) →
      IsCandidate (operator o) (scalar s ∷ scalar s ∷ []) (scalar s)
  -- of two vectors of the same type
  -- vec3<f32> * vec3<f32> : vec3<f32>
  vectors : (o : BinaryOperator) → IsArithmetic o → (n : ℕ) (e : WgslType) →
      IsCandidate (operator o) (vec n e ∷ vec n e ∷ []) (vec n e)
  -- of a scalar and a vector of that scalar, in either order
  -- f32 + vec3<f32> : vec3<f32>
  scalar_vector : (o : BinaryOperator) → IsArithmetic o → (s : Scalar) (n : ℕ) →
      IsCandidate (operator o) (scalar s ∷ vec n (scalar s) ∷ []) (vec n (scalar s))
  -- vec2<f32> / f32 : vec2<f32>
  vector_scalar : (o : BinaryOperator) → IsArithmetic o → (s : Scalar) (n : ℕ) →
      IsCandidate (operator o) (vec n (scalar s) ∷ scalar s ∷ []) (vec n (scalar s))
  -- the sum or difference of two matrices of the same type
  -- mat2x3<f16> - mat2x3<f16> : mat2x3<f16>
  matrices : (o : BinaryOperator) → IsSum o → (c r : ℕ) (e : WgslType) →
      IsCandidate (operator o) (mat c r e ∷ mat c r e ∷ []) (mat c r e)
  -- the product of a scalar and a matrix of that scalar, in either order
  -- f32 * mat2x3<f32> : mat2x3<f32>
  scalar_matrix : (s : Scalar) (c r : ℕ) →
      IsCandidate (operator Multiplication) (scalar s ∷ mat c r (scalar s) ∷ []) (mat c r (scalar s))
  -- mat2x3<f16> * f16 : mat2x3<f16>
  matrix_scalar : (s : Scalar) (c r : ℕ) →
      IsCandidate (operator Multiplication) (mat c r (scalar s) ∷ scalar s ∷ []) (mat c r (scalar s))
  -- of a vector and a matrix, with as many components as rows: one component per column
  -- vec3<f32> * mat2x3<f32> : vec2<f32>
  vector_matrix : (c r : ℕ) (e : WgslType) →
      IsCandidate (operator Multiplication) (vec r e ∷ mat c r e ∷ []) (vec c e)
  -- of a matrix and a vector, with as many columns as components: one component per row
  -- mat2x3<f32> * vec2<f32> : vec3<f32>
  matrix_vector : (c r : ℕ) (e : WgslType) →
      IsCandidate (operator Multiplication) (mat c r e ∷ vec c e ∷ []) (vec r e)
  -- of two matrices, if the first has as many columns as the second has rows
  -- mat2x3<f32> * mat4x2<f32> : mat4x3<f32>
  matrix_matrix : (k c r : ℕ) (e : WgslType) →
      IsCandidate (operator Multiplication) (mat k r e ∷ mat c k e ∷ []) (mat c r e)
  -- comparison of two scalars of the same type
  -- f32 < f32 : bool
  compared : (o : BinaryOperator) → IsComparison o → (s : Scalar) →
      IsCandidate (operator o) (scalar s ∷ scalar s ∷ []) (scalar Bool)
  -- of two vectors of the same type, component by component
  -- vec3<f32> == vec3<f32> : vec3<bool>
  compared_vectors : (o : BinaryOperator) → IsComparison o → (n : ℕ) (e : WgslType) →
      IsCandidate (operator o) (vec n e ∷ vec n e ∷ []) (vec n (scalar Bool))
  -- the short-circuit operators, `||` and `&&`, of two `bool`
  -- bool && bool : bool
  logical : (o : BinaryOperator) → IsLogical o →
      IsCandidate (operator o) (scalar Bool ∷ scalar Bool ∷ []) (scalar Bool)
  -- bitwise operators on two integers of the same type
  -- u32 ^ u32 : u32
  bits : (o : BinaryOperator) → IsBitwise o → (i : Scalar) → IsInteger i →
      IsCandidate (operator o) (scalar i ∷ scalar i ∷ []) (scalar i)
  -- on two vectors of integers of the same type
  -- vec2<i32> & vec2<i32> : vec2<i32>
  bits_vectors : (o : BinaryOperator) → IsBitwise o → (n : ℕ) (i : Scalar) → IsInteger i →
      IsCandidate (operator o) (vec n (scalar i) ∷ vec n (scalar i) ∷ []) (vec n (scalar i))
  -- `|` and `&` on two vectors of `bool`
  -- vec2<bool> | vec2<bool> : vec2<bool>
  bools_vectors : (o : BinaryOperator) → IsOrAnd o → (n : ℕ) →
      IsCandidate (operator o) (vec n (scalar Bool) ∷ vec n (scalar Bool) ∷ []) (vec n (scalar Bool))
  -- an integer shifted by a `u32`
  -- i32 << u32 : i32
  shifted : (o : BinaryOperator) → IsShift o → (i : Scalar) → IsInteger i →
      IsCandidate (operator o) (scalar i ∷ scalar U32 ∷ []) (scalar i)
  -- a vector of integers shifted component by component
  -- vec3<i32> >> vec3<u32> : vec3<i32>
  shifted_vectors : (o : BinaryOperator) → IsShift o → (n : ℕ) (i : Scalar) → IsInteger i →
      IsCandidate (operator o) (vec n (scalar i) ∷ vec n (scalar U32) ∷ []) (vec n (scalar i))
  -- of two arguments of the same type
  -- min(f32, f32) : f32
  of_two : (n : Name) → IsOfTwo n → (t : WgslType) → IsFor n t → IsCandidate n (t ∷ t ∷ []) t
  -- of three
  -- fma(f16, f16, f16) : f16
  of_three : (n : Name) → IsOfThree n → (t : WgslType) → IsFor n t → IsCandidate n (t ∷ t ∷ t ∷ []) t
  -- the distance of two floats, or of two vectors of floats
  -- distance(vec2<f32>, vec2<f32>) : f32
  distances : (t : WgslType) → IsFloatOrVector t → IsCandidate distance (t ∷ t ∷ []) (inner_of t)
  -- the dot product of two vectors of numbers of the same type
  -- dot(vec3<u32>, vec3<u32>) : u32
  products : (n : ℕ) (s : Scalar) → IsNumeric s → IsCandidate dot (vec n (scalar s) ∷ vec n (scalar s) ∷ []) (scalar s)
  -- `select` of one of two scalars or vectors by a `bool`
  -- select(f32, f32, bool) : f32
  either : (t : WgslType) → IsScalarOrVector t → IsCandidate select (t ∷ t ∷ scalar Bool ∷ []) t
  -- of each component from one of two vectors, by its own `bool`
  -- select(vec2<f32>, vec2<f32>, vec2<bool>) : vec2<f32>
  each_either : (n m : ℕ) (e : WgslType) → IsCandidate select (vec n e ∷ vec n e ∷ vec m (scalar Bool) ∷ []) (vec n e)
  -- two vectors of floats, and a float for all components
  -- mix(vec2<f32>, vec2<f32>, f32) : vec2<f32>
  mixed : (n : Name) → IsMixed n → (k : ℕ) (s : Scalar) → IsFloat s →
      IsCandidate n (vec k (scalar s) ∷ vec k (scalar s) ∷ scalar s ∷ []) (vec k (scalar s))
  -- `insertBits` of two numbers, or two vectors of numbers, of the same type: the concrete type
  -- insertBits(i32, i32, u32, u32) : i32
  inserted : (t : WgslType) → IsNumericOrVector t →
      IsCandidate insert_bits (t ∷ t ∷ scalar U32 ∷ scalar U32 ∷ []) (concretized t)
