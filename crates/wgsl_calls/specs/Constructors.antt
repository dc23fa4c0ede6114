-- What constructors make of value types: the result of the least candidate (WGSL, "Value Constructor Built-in Functions" and
-- "Overload Resolution"). A candidate has the types of its parameters, and the type that it makes.
use Rattle.std.specs.Prelude.{ℕ, ◌*◌, List, [], ◌∷◌, ◌≡◌, ◌≢◌, ◌⊎◌, ◌↔◌, Option, Some, None, Result, Ok, IsErr, All, length}
use Rattle.wgsl_syntax.specs.declared.scalar.Scalar.{Scalar}
use Rattle.wgsl_syntax.specs.declared.scalar.Scalar.TheVariants.{AbstractInt}
use Rattle.wgsl_rules.specs.types.Types.{WgslType, scalar, array, vec, mat}
use Rattle.wgsl_rules.specs.types.Kinds.{IsFloatScalar}
use Rattle.wgsl_rules.specs.types.Signatures.{Parameter, Signature}
use Rattle.wgsl_rules.specs.conversion.Conversion.{IsValueType}
use Rattle.wgsl_rules.specs.errors.Refusals.{Refusal}
use Rattle.wgsl_rules.specs.operators.Choice.{HasRanks, Takes, IsNowhereMore, IsSomewhereLess}
use Rattle.wgsl_rules.specs.templates.Templates.{array_template, IsVecTemplate, IsMatTemplate}
use Rattle.wgsl_rules.specs.constructors.Vectors.{all_components}
use Rattle.wgsl_rules.specs.constructors.Matrices.{component_of}
use Rattle.wgsl_rules.specs.constructors.Constructors.{Constructor, makes_array, makes_scalar, makes_vector, makes_matrix, constructor_of, IsConstructorAnswer}

-- Scalars take no template, and convert any scalar.
pub data IsScalarCandidate (s : Scalar) : Option (List Parameter) → List WgslType → WgslType → Type 0 where
  -- i32() : i32
  scalar_zero : IsScalarCandidate s None [] (scalar s)
  -- i32(f32) : i32
  scalar_conversion : (t : Scalar) → IsScalarCandidate s None (scalar t ∷ []) (scalar s)

-- Each type of the list is u.
abbrev pub AreAll : WgslType → List WgslType → Type 0
AreAll u us = All (λ v. v ≡ u) us

pub data IsArrayCandidate : Option (List Parameter) → List WgslType → WgslType → Type 0 where
  -- one argument or more, all of the element type
  -- array(f32, f32) : array<f32, 2>
  array_elements : (t : WgslType) (us : List WgslType) → us ≢ [] → AreAll t us → IsArrayCandidate None us (array (Some (length us)) t)
  -- array<f32, 3>() : array<f32, 3>, and array<f32>() : array<f32>
  typed_array_zero : (ps : List Parameter) (t : WgslType) → array_template ps ≡ Ok t → IsArrayCandidate (Some ps) [] t
  -- with a count, which isn't compared with the number of arguments
  -- array<f32, 3>(f32, f32) : array<f32, 3>
  typed_array_elements : (ps : List Parameter) (n : ℕ) (t : WgslType) (us : List WgslType) → array_template ps ≡ Ok (array (Some n) t) → AreAll t us →
      IsArrayCandidate (Some ps) us (array (Some n) t)

-- the scalar t, or a vector of t
abbrev pub HasComponents : WgslType → WgslType → Type 0
HasComponents t (scalar s) = t ≡ scalar s
HasComponents t (vec m e) = t ≡ e
HasComponents t u = ⊥

-- Scalars and vectors of t make n components: they have n in total, or one scalar is each of them.
pub record MakeComponents (n : ℕ) (t : WgslType) (us : List WgslType) : Type 0 where
  pub some : us ≢ []
  pub of_type : All (HasComponents t) us
  pub number : (all_components us ≡ n) ⊎ ((s : Scalar) × (us ≡ scalar s ∷ []))

-- vectors with n components
pub data IsVectorCandidate (n : ℕ) : Option (List Parameter) → List WgslType → WgslType → Type 0 where
  -- vec3() : vec3<AbstractInt>
  vector_zero : IsVectorCandidate n None [] (vec n (scalar AbstractInt))
  -- vec3(f32) : vec3<f32>
  -- vec4(vec2<f32>, f32, f32) : vec4<f32>
  vector_components : (t : WgslType) (us : List WgslType) → MakeComponents n t us → IsVectorCandidate n None us (vec n t)
  -- vec3<f32>() : vec3<f32>
  typed_vector_zero : (ps : List Parameter) (t : WgslType) → IsVecTemplate ps (Ok t) → IsVectorCandidate n (Some ps) [] (vec n t)
  -- of a vector with n components, whatever they are
  -- vec3<f32>(vec3<bool>) : vec3<f32>
  typed_vector_conversion : (ps : List Parameter) (t e : WgslType) → IsVecTemplate ps (Ok t) →
      IsVectorCandidate n (Some ps) (vec n e ∷ []) (vec n t)
  -- vec3<f32>(f32) : vec3<f32>
  -- vec4<f32>(vec2<f32>, f32, f32) : vec4<f32>
  typed_vector_components : (ps : List Parameter) (t : WgslType) (us : List WgslType) → IsVecTemplate ps (Ok t) → MakeComponents n t us →
      IsVectorCandidate n (Some ps) us (vec n t)

-- Scalars or vectors of t make c columns of r components: there is a scalar for each component, or a vector for each column.
-- The vectors have one length, which isn't compared with r.
pub record MakeColumns (c r : ℕ) (t : WgslType) (us : List WgslType) : Type 0 where
  pub some : us ≢ []
  pub number : (AreAll t us × (length us ≡ c * r)) ⊎ ((m : ℕ) × AreAll (vec m t) us × (length us ≡ c))

-- matrices with c columns and r rows
pub data IsMatrixCandidate (c r : ℕ) : Option (List Parameter) → List WgslType → WgslType → Type 0 where
  -- of such a matrix, whatever its components are
  -- mat2x2(mat2x2<f32>) : mat2x2<f32>
  matrix_copy : (e : WgslType) → IsMatrixCandidate c r None (mat c r e ∷ []) (mat c r e)
  -- of floats, or of abstract integers, which become `f32`
  -- mat2x2(f16, f16, f16, f16) : mat2x2<f16>
  -- mat2x2(vec2<AbstractInt>, vec2<AbstractInt>) : mat2x2<f32>
  matrix_components : (t : WgslType) (us : List WgslType) → IsFloatScalar (component_of t) → MakeColumns c r t us →
      IsMatrixCandidate c r None us (mat c r (component_of t))
  -- mat2x3<f32>() : mat2x3<f32>
  typed_matrix_zero : (ps : List Parameter) (t : WgslType) → IsMatTemplate ps (Ok t) → IsMatrixCandidate c r (Some ps) [] (mat c r t)
  -- mat2x2<f16>(mat2x2<f32>) : mat2x2<f16>
  typed_matrix_conversion : (ps : List Parameter) (t e : WgslType) → IsMatTemplate ps (Ok t) →
      IsMatrixCandidate c r (Some ps) (mat c r e ∷ []) (mat c r t)
  -- mat2x2<f32>(vec2<f32>, vec2<f32>) : mat2x2<f32>
  typed_matrix_components : (ps : List Parameter) (t : WgslType) (us : List WgslType) → IsMatTemplate ps (Ok t) → MakeColumns c r t us →
      IsMatrixCandidate c r (Some ps) us (mat c r t)

-- the candidates of a constructor, without a template or with one
abbrev pub IsCandidateOf : Option Constructor → Option (List Parameter) → List WgslType → WgslType → Type 0
IsCandidateOf (Some makes_array) template = IsArrayCandidate template
IsCandidateOf (Some (makes_scalar s)) template = IsScalarCandidate s template
IsCandidateOf (Some (makes_vector n)) template = IsVectorCandidate n template
IsCandidateOf (Some (makes_matrix c r)) template = IsMatrixCandidate c r template
IsCandidateOf None template = λ us r. ⊥

-- The least candidate for arguments of types ts has parameters us and makes r: any other candidate that takes the arguments
-- has no lower rank in any argument, and a higher one in some.
pub record IsLeastAmong (Candidate : List WgslType → WgslType → Type 0) (ts us : List WgslType) (r : WgslType) : Type 0 where
  pub candidate : Candidate us r
  pub ranks : List ℕ
  pub takes : HasRanks ts us ranks
  pub least : (vs : List WgslType) (s : WgslType) (ws : List ℕ) → Candidate vs s →
      HasRanks ts vs ws → (vs ≡ us) × (s ≡ r) ⊎ IsNowhereMore ranks ws × IsSomewhereLess ranks ws

-- The answer is the type that the least candidate makes. It is a refusal exactly if no candidate takes the arguments.
pub record IsLeastMade (Candidate : List WgslType → WgslType → Type 0) (ts : List WgslType) (r : Result WgslType Refusal) : Type 0 where
  pub made : (t : WgslType) → (r ≡ Ok t) ↔ ((us : List WgslType) × IsLeastAmong Candidate ts us t)
  pub refused : IsErr r ↔ ((us : List WgslType) (t : WgslType) → Candidate us t → ¬ Takes us ts)

-- The constructor of a scalar takes the call.
-- i32(f32)
abbrev pub IsScalarMade : Signature → Type 0
IsScalarMade call = (s : Scalar) × (constructor_of call.name ≡ Some (makes_scalar s)) × (t : WgslType) × IsConstructorAnswer call (Ok t)

-- What a constructor returns for value types.
unfoldable pub IsLeastConstructorAnswer : Signature → Result WgslType Refusal → Type 0
IsLeastConstructorAnswer call r =
    All IsValueType call.arguments → IsLeastMade (IsCandidateOf (constructor_of call.name) call.template) call.arguments r
