-- Whether a type is of a kind, and an argument as a row of the built-in functions wants it.
use Rattle.wgsl_syntax.specs.declared.scalar.Scalar.TheVariants.{Bool}
use Rattle.wgsl_lines.proofs.Common.{◌⊎◌, List, [], ◌∷◌, All, refl, inl, inr, Scalar, AbstractInt, AbstractFloat, I32, U32, F32, F16, I64, U64, F64}
use Rattle.wgsl_lines.proofs.Common.{vec_of, WgslType, scalar, within, IsInteger, IsFloat, IsNumeric, IsIntegerOrVector, IsNumericOrVector, IsFloatScalar}
use Rattle.wgsl_lines.proofs.Common.{IsScalar, IsScalarOrVector, IsAbstract, both, by, ◌≡◌, ℕ_discrete, Function, Workgroup, Shape, IsDepth, IsSampled}
use Rattle.wgsl_lines.proofs.Common.{IsArrayed, IsMultisampled, mat_of, struct, atomic, pointer, texture, acceleration_structure, vec, IsAtomic, shaped}
use Rattle.wgsl_lines.proofs.Common.{float_of, dec_converts, same_type}
use Rattle.std.proofs.lemmas.List.Elements.{All-nil, All-cons, All-head, All-tail}
use Rattle.wgsl_syntax.specs.declared.address.AccessMode.TheVariants.{ReadWrite}
use Rattle.wgsl_syntax.specs.declared.call.ScalarKind.{ScalarKind}
use Rattle.wgsl_syntax.specs.declared.call.ScalarKind.TheVariants.{Boolean, Number, NumberButU32, Integer, Float, F32OrAbstract, I32OrAbstract}
use Rattle.wgsl_syntax.specs.declared.call.Shape.TheVariants.{Any, ScalarOf, VectorOf, ScalarOrVectorOf, Vector, ScalarOrVector, Matrix, SquareMatrix, Fraction, TextureOf, PointerToAtomic, PointerInWorkgroup, Query, Acceleration, Structure, To, ToVector}
use Rattle.wgsl_syntax.specs.declared.call.TextureKind.{TextureKind}
use Rattle.wgsl_syntax.specs.declared.call.TextureKind.TheVariants.{AnyTexture, Sampled, Depth, Arrayed, Multisampled, Storage, SampledOrDepth, DepthOrMultisampledDepth, Sampled2dOrExternal}
use Rattle.wgsl_syntax.specs.declared.result_struct.ResultPrecision.{ResultPrecision}
use Rattle.wgsl_syntax.specs.declared.result_struct.ResultPrecision.TheVariants as precision
use Rattle.wgsl_syntax.specs.declared.result_struct.ResultShape.{ResultShape}
use Rattle.wgsl_syntax.specs.declared.result_struct.ResultShape.TheVariants as shape
use Rattle.wgsl_syntax.specs.declared.texture.TextureType.{TextureType}
use Rattle.wgsl_syntax.specs.declared.texture.TextureType.TheVariants.{Sampled2D, SampledCubeArray, Sampled2DArray, Sampled1DArray, Multisampled2D, Multisampled2DArray, DepthMultisampled2D, External, Storage1DArray, Storage2DArray, Depth2D, Depth2DArray, DepthCube, DepthCubeArray}
use Rattle.wgsl_syntax.specs.declared.texture_name.TextureParameterKind.{TextureParameterKind}
use Rattle.wgsl_syntax.specs.declared.texture_name.TextureParameterKind.TheVariants as kinds
use Rattle.wgsl_syntax.specs.TextureName.{kind_of, parameters_of}
use Rattle.wgsl_syntax.proofs.Discrete.{same_space, same_access}
use Rattle.wgsl_rules.specs.calls.Shapes.{Is, IsFraction, IsOfKind, IsPointerInWorkgroup, IsPointerToAtomic, IsQuery, IsScalarOf, IsScalarOrVectorOf, IsSquareMatrix, IsTextureOf, IsTextureTypeOf, IsVectorOf}

pub dec_integer : (s : Scalar) → Dec (IsInteger s)
dec_integer AbstractInt = yes tt
dec_integer I32 = yes tt
dec_integer U32 = yes tt
dec_integer I64 = yes tt
dec_integer U64 = yes tt
dec_integer s = no (λ h. h)

pub dec_float : (s : Scalar) → Dec (IsFloat s)
dec_float AbstractFloat = yes tt
dec_float F32 = yes tt
dec_float F16 = yes tt
dec_float F64 = yes tt
dec_float s = no (λ h. h)

pub dec_numeric : (s : Scalar) → Dec (IsNumeric s)
dec_numeric Bool = no (λ h. h)
dec_numeric s = yes tt

pub dec_integer_or_vector : (t : WgslType) → Dec (IsIntegerOrVector t)
dec_integer_or_vector (scalar s) = dec_integer s
dec_integer_or_vector (within (vec_of n) (scalar s)) = dec_integer s
dec_integer_or_vector t = no (λ h. h)

pub dec_numeric_or_vector : (t : WgslType) → Dec (IsNumericOrVector t)
dec_numeric_or_vector (scalar s) = dec_numeric s
dec_numeric_or_vector (within (vec_of n) (scalar s)) = dec_numeric s
dec_numeric_or_vector t = no (λ h. h)

pub dec_scalar : (t : WgslType) → Dec (IsScalar t)
dec_scalar (scalar s) = yes tt
dec_scalar t = no (λ h. h)

pub dec_float_scalar : (t : WgslType) → Dec (IsFloatScalar t)
dec_float_scalar (scalar s) = dec_float s
dec_float_scalar t = no (λ h. h)

pub dec_scalar_or_vector : (t : WgslType) → Dec (IsScalarOrVector t)
dec_scalar_or_vector (scalar s) = yes tt
dec_scalar_or_vector (within (vec_of n) t) = yes tt
dec_scalar_or_vector t = no (λ h. h)

pub all_three : {A B C : Type 0} → Dec A → Dec B → Dec C → Dec (A × B × C)
all_three a b c = by (λ h. (h.0, h.1.0, h.1.1)) (λ h. (h.0, (h.1, h.2))) (both a (both b c))

-- the negation of a decidable fact
pub dec_not : {P : Type 0} → Dec P → Dec (¬ P)
dec_not (yes h) = no (λ n. n h)
dec_not (no n) = yes n

pub dec_abstract : (t : WgslType) → Dec (IsAbstract t)
dec_abstract (scalar AbstractInt) = yes refl
dec_abstract (scalar AbstractFloat) = yes refl
dec_abstract (within l t) = dec_abstract t
dec_abstract t = no (λ e. cc e)

-- one of two decidable facts
pub either : {A B : Type 0} → Dec A → Dec B → Dec (A ⊎ B)
either (yes a) b = yes (inl a)
either (no n) (yes b) = yes (inr b)
either (no n) (no m) = no (λ h. elim h [ inl a ↦ n a | inr b ↦ m b ])

-- a decidable property of each type of a list
pub dec_all : (P : WgslType → Type 0) → ((t : WgslType) → Dec (P t)) → (ts : List WgslType) → Dec (All P ts)
dec_all P dec [] = yes (All-nil P)
dec_all P dec (t ∷ ts) = elim (dec t) [
  | no n ↦ no (λ h. n (All-head P t ts h))
  | yes p ↦ elim (dec_all P dec ts) [ no n ↦ no (λ h. n (All-tail P t ts h)) | yes h ↦ yes (All-cons P t ts p h) ]
]

-- Scalars

dec_kind : (k : ScalarKind) (s : Scalar) → Dec (IsOfKind k s)
dec_kind Boolean Bool = yes tt
dec_kind Number s = dec_numeric s
dec_kind NumberButU32 U32 = no (λ h. h)
dec_kind NumberButU32 s = dec_numeric s
dec_kind Integer s = dec_integer s
dec_kind Float s = dec_float s
dec_kind F32OrAbstract AbstractFloat = yes tt
dec_kind F32OrAbstract F32 = yes tt
dec_kind I32OrAbstract AbstractInt = yes tt
dec_kind I32OrAbstract I32 = yes tt
dec_kind k s = no (λ h. h)

dec_scalar_of : (k : ScalarKind) (t : WgslType) → Dec (IsScalarOf k t)
dec_scalar_of k (scalar s) = dec_kind k s
dec_scalar_of k t = no (λ h. h)

dec_vector_of : (k : ScalarKind) (t : WgslType) → Dec (IsVectorOf k t)
dec_vector_of k (within (vec_of n) t) = dec_scalar_of k t
dec_vector_of k t = no (λ h. h)

dec_scalar_or_vector_of : (k : ScalarKind) (t : WgslType) → Dec (IsScalarOrVectorOf k t)
dec_scalar_or_vector_of k (scalar s) = dec_kind k s
dec_scalar_or_vector_of k (within (vec_of n) t) = dec_scalar_of k t
dec_scalar_or_vector_of k t = no (λ h. h)

-- Fractions

-- it is this value, or another
or_next : {A : Type 0} {P : A → Type 0} (x : A) → Dec (P x) → (¬ P x → Dec ((y : A) × P y)) → Dec ((y : A) × P y)
or_next x (yes h) rest = yes (x, h)
or_next x (no n) rest = rest n

a_precision : {P : ResultPrecision → Type 0} → ((p : ResultPrecision) → Dec (P p)) → Dec ((p : ResultPrecision) × P p)
a_precision {P} dec =
    or_next {P = P} precision.Abstract (dec precision.Abstract) (λ a. or_next {P = P} precision.F32 (dec precision.F32) (λ b. or_next {P = P} precision.F16 (dec precision.F16)
    (λ c. no (λ h. none a b c h.0 h.1))))
  where
    none : ¬ P precision.Abstract → ¬ P precision.F32 → ¬ P precision.F16 → (p : ResultPrecision) → ¬ P p
    none a b c precision.Abstract h = a h
    none a b c precision.F32 h = b h
    none a b c precision.F16 h = c h

a_shape : {P : ResultShape → Type 0} → ((s : ResultShape) → Dec (P s)) → Dec ((s : ResultShape) × P s)
a_shape {P} dec =
    or_next {P = P} shape.Scalar (dec shape.Scalar) (λ a. or_next {P = P} shape.Vec2 (dec shape.Vec2) (λ b. or_next {P = P} shape.Vec3 (dec shape.Vec3)
    (λ c. or_next {P = P} shape.Vec4 (dec shape.Vec4) (λ d. no (λ h. none a b c d h.0 h.1)))))
  where
    none : ¬ P shape.Scalar → ¬ P shape.Vec2 → ¬ P shape.Vec3 → ¬ P shape.Vec4 → (s : ResultShape) → ¬ P s
    none a b c d shape.Scalar h = a h
    none a b c d shape.Vec2 h = b h
    none a b c d shape.Vec3 h = c h
    none a b c d shape.Vec4 h = d h

pub dec_fraction : (t : WgslType) → Dec (IsFraction t)
dec_fraction t =
    by (λ h. (h.0, h.1.0, h.1.1)) (λ h. (h.0, (h.1, h.2)))
    (a_shape {P = λ s. (p : ResultPrecision) × (t ≡ shaped s (scalar (float_of p)))}
    (λ s. a_precision {P = λ p. t ≡ shaped s (scalar (float_of p))} (λ p. same_type t (shaped s (scalar (float_of p))))))

-- Textures

dec_parameters : (k l : TextureParameterKind) → Dec (k ≡ l)
dec_parameters kinds.None kinds.None = yes refl
dec_parameters kinds.Sampled kinds.Sampled = yes refl
dec_parameters kinds.Storage kinds.Storage = yes refl
dec_parameters k l = no (λ e. absurd (cc e))

dec_depth : (x : TextureType) → Dec (IsDepth x)
dec_depth Depth2D = yes tt
dec_depth Depth2DArray = yes tt
dec_depth DepthCube = yes tt
dec_depth DepthCubeArray = yes tt
dec_depth x = no (λ h. h)

dec_arrayed : (x : TextureType) → Dec (IsArrayed x)
dec_arrayed (Sampled1DArray s) = yes tt
dec_arrayed (Sampled2DArray s) = yes tt
dec_arrayed (SampledCubeArray s) = yes tt
dec_arrayed (Multisampled2DArray s) = yes tt
dec_arrayed (Storage1DArray f m) = yes tt
dec_arrayed (Storage2DArray f m) = yes tt
dec_arrayed Depth2DArray = yes tt
dec_arrayed DepthCubeArray = yes tt
dec_arrayed x = no (λ h. h)

dec_multisampled : (x : TextureType) → Dec (IsMultisampled x)
dec_multisampled (Multisampled2D s) = yes tt
dec_multisampled (Multisampled2DArray s) = yes tt
dec_multisampled DepthMultisampled2D = yes tt
dec_multisampled x = no (λ h. h)

dec_sampled : (x : TextureType) → Dec (IsSampled x)
dec_sampled x = both (dec_parameters (kind_of (parameters_of x)) kinds.Sampled) (dec_not (dec_multisampled x))

dec_texture : (k : TextureKind) (x : TextureType) → Dec (IsTextureOf k x)
dec_texture AnyTexture x = yes tt
dec_texture Sampled x = dec_sampled x
dec_texture Depth x = dec_depth x
dec_texture Arrayed x = dec_arrayed x
dec_texture Multisampled x = dec_multisampled x
dec_texture Storage x = dec_parameters (kind_of (parameters_of x)) kinds.Storage
dec_texture SampledOrDepth x = either (dec_sampled x) (dec_depth x)
dec_texture DepthOrMultisampledDepth DepthMultisampled2D = yes tt
dec_texture DepthOrMultisampledDepth x = dec_depth x
dec_texture Sampled2dOrExternal (Sampled2D s) = yes tt
dec_texture Sampled2dOrExternal External = yes tt
dec_texture Sampled2dOrExternal x = no (λ h. h)

dec_texture_type : (k : TextureKind) (t : WgslType) → Dec (IsTextureTypeOf k t)
dec_texture_type k (texture x) = dec_texture k x
dec_texture_type k t = no (λ h. h)

-- Pointers

dec_atomic : (t : WgslType) → Dec (IsAtomic t)
dec_atomic (atomic t) = yes tt
dec_atomic t = no (λ h. h)

dec_pointer_to_atomic : (t : WgslType) → Dec (IsPointerToAtomic t)
dec_pointer_to_atomic (pointer s t m) = dec_atomic t
dec_pointer_to_atomic t = no (λ h. h)

dec_pointer_in_workgroup : (t : WgslType) → Dec (IsPointerInWorkgroup t)
dec_pointer_in_workgroup (pointer s t m) = same_space s Workgroup
dec_pointer_in_workgroup t = no (λ h. h)

dec_query : (t : WgslType) → Dec (IsQuery t)
dec_query (pointer s t m) = both (same_space s Function) (same_access m ReadWrite)
dec_query t = no (λ h. h)

-- Any shape

dec_square_matrix : (t : WgslType) → Dec (IsSquareMatrix t)
dec_square_matrix (within (mat_of c r) t) = ℕ_discrete c r
dec_square_matrix t = no (λ h. h)

pub dec_is : (s : Shape) (t : WgslType) → Dec (Is s t)
dec_is Any t = yes tt
dec_is (ScalarOf k) t = dec_scalar_of k t
dec_is (VectorOf k) t = dec_vector_of k t
dec_is (ScalarOrVectorOf k) t = dec_scalar_or_vector_of k t
dec_is Vector (within (vec_of n) t) = yes tt
dec_is ScalarOrVector t = dec_scalar_or_vector t
dec_is Matrix (within (mat_of c r) t) = yes tt
dec_is SquareMatrix t = dec_square_matrix t
dec_is Fraction t = dec_fraction t
dec_is (To s) t = dec_converts t (scalar s)
dec_is (ToVector n s) t = dec_converts t (vec n (scalar s))
dec_is (TextureOf k) t = dec_texture_type k t
dec_is PointerToAtomic t = dec_pointer_to_atomic t
dec_is PointerInWorkgroup t = dec_pointer_in_workgroup t
dec_is Query t = dec_query t
dec_is Acceleration (acceleration_structure f) = yes tt
dec_is Structure (struct name ms) = yes tt
dec_is s t = no (λ h. h)
