-- What the constructors of matrices return for their arguments (WGSL, "Value Constructor Built-in Functions").
use Rattle.std.specs.Prelude.{ℕ, ◌*◌, List, [], ◌∷◌, ◌≡◌, Option, Some, None, Result, Ok, Err, codes, length, ok_or}
use Rattle.wgsl_syntax.specs.declared.scalar.Scalar.TheVariants.{AbstractInt, F32}
use Rattle.wgsl_rules.specs.types.Types.{WgslType, scalar, vec, mat}
use Rattle.wgsl_rules.specs.conversion.Converted.{IsConvertedInside}
use Rattle.wgsl_rules.specs.types.Kinds.{IsFloatScalar}
use Rattle.wgsl_rules.specs.types.Inner.{inner_of}
use Rattle.wgsl_rules.specs.types.Signatures.{Parameter}
use Rattle.wgsl_rules.specs.errors.Refusals.{Refusal, conversion, builtin}
use Rattle.wgsl_rules.specs.templates.Templates.{IsMatTemplate}
use Rattle.wgsl_rules.specs.constructors.Steps.{Either, Then, ThenCommon, IsCounted}

abbrev pub no_columns : Refusal
no_columns = builtin (codes "matrix constructor expects float or vector of float arguments")

-- A matrix with c columns and r rows of t, from `number` arguments with a common type: vectors are its columns, scalars
-- its components.
abbrev pub IsMatrixOf : List ℕ → ℕ → ℕ → ℕ → WgslType → WgslType → Result WgslType Refusal → Type 0
-- mat2x2<f32>(vec2<f32>, vec2<AbstractInt>) : mat2x2<f32>
IsMatrixOf name c r number t (vec n e) q = IsCounted name c number (mat c r t) q
-- mat2x2<f32>(AbstractInt, f32, f32, f32) : mat2x2<f32>
IsMatrixOf name c r number t (scalar s) q = IsCounted name (c * r) number (mat c r t) q
IsMatrixOf name c r number t u q = q ≡ Err no_columns

abbrev pub incompatible_matrix : List ℕ
incompatible_matrix = codes "matrix components are incompatible"

-- with a template for t, from `number` arguments with common type u, whose inner type converts to t
abbrev pub IsTypedMatrixOf : List ℕ → ℕ → ℕ → ℕ → WgslType → WgslType → Result WgslType Refusal → Type 0
IsTypedMatrixOf name c r number t u q =
    (v : Option WgslType) × IsConvertedInside u t v × Then (ok_or v (conversion (inner_of u) t)) (IsMatrixOf name c r number t) q

-- with a template, from one argument: a matrix of the same shape, or as from any other number
abbrev pub IsTypedMatrixOfOne : List ℕ → ℕ → ℕ → WgslType → WgslType → Result WgslType Refusal → Type 0
-- mat2x2<f16>(mat2x2<f32>) : mat2x2<f16>
IsTypedMatrixOfOne name c r (mat d s e) t q =
    Either ((d ≡ c) × (s ≡ r)) (q ≡ Ok (mat c r t)) (q ≡ Err (conversion (mat d s e) (mat c r t)))
IsTypedMatrixOfOne name c r a t q = ThenCommon (a ∷ []) incompatible_matrix (IsTypedMatrixOf name c r 1 t) q

-- matrices with a template
abbrev pub IsTypedMatrix : List ℕ → ℕ → ℕ → List WgslType → WgslType → Result WgslType Refusal → Type 0
-- mat2x3<f32>() : mat2x3<f32>
IsTypedMatrix name c r [] t q = q ≡ Ok (mat c r t)
IsTypedMatrix name c r (a ∷ []) t q = IsTypedMatrixOfOne name c r a t q
IsTypedMatrix name c r args t q = ThenCommon args incompatible_matrix (IsTypedMatrixOf name c r (length args) t) q

-- the type of a matrix's components: an abstract integer counts as `f32`
abbrev pub component_of : WgslType → WgslType
component_of (scalar AbstractInt) = scalar F32
component_of t = t

-- without a template, from `number` arguments with common type u
abbrev pub IsUntypedMatrixOf : List ℕ → ℕ → ℕ → ℕ → WgslType → Result WgslType Refusal → Type 0
IsUntypedMatrixOf name c r number u q =
    Either (IsFloatScalar (component_of (inner_of u))) (IsMatrixOf name c r number (component_of (inner_of u)) u q) (q ≡ Err no_columns)

-- without a template, from one argument: a matrix of the same shape, or as from any other number
abbrev pub IsUntypedMatrixOfOne : List ℕ → ℕ → ℕ → WgslType → Result WgslType Refusal → Type 0
-- mat2x2(mat2x2<f32>) : mat2x2<f32>
IsUntypedMatrixOfOne name c r (mat d s e) q =
    Either ((d ≡ c) × (s ≡ r)) (q ≡ Ok (mat d s e)) (q ≡ Err (conversion (mat d s e) (mat c r e)))
IsUntypedMatrixOfOne name c r a q = ThenCommon (a ∷ []) incompatible_matrix (IsUntypedMatrixOf name c r 1) q

-- matrices without a template
abbrev pub IsUntypedMatrix : List ℕ → ℕ → ℕ → List WgslType → Result WgslType Refusal → Type 0
IsUntypedMatrix name c r (a ∷ []) q = IsUntypedMatrixOfOne name c r a q
-- mat2x2(vec2<f32>, vec2<AbstractFloat>) : mat2x2<f32>
-- mat2x2(AbstractInt, AbstractInt, AbstractInt, AbstractInt) : mat2x2<f32>
IsUntypedMatrix name c r args q = ThenCommon args incompatible_matrix (IsUntypedMatrixOf name c r (length args)) q

abbrev pub IsMatrixCall : List ℕ → ℕ → ℕ → Option (List Parameter) → List WgslType → Result WgslType Refusal → Type 0
IsMatrixCall name c r (Some ps) args q = (s : Result WgslType Refusal) × IsMatTemplate ps s × Then s (IsTypedMatrix name c r args) q
IsMatrixCall name c r None args q = IsUntypedMatrix name c r args q
