-- What the built-in functions require of an argument (WGSL, "Built-in Functions").
use Rattle.std.specs.Prelude.{◌≡◌, ◌⊎◌}
use Rattle.wgsl_syntax.specs.declared.scalar.Scalar.{Scalar}
use Rattle.wgsl_syntax.specs.declared.scalar.Scalar.TheVariants.{Bool, AbstractInt, AbstractFloat, I32, U32, F32}
use Rattle.wgsl_syntax.specs.declared.address.AddressSpace.TheVariants.{Function, Workgroup}
use Rattle.wgsl_syntax.specs.declared.address.AccessMode.TheVariants.{ReadWrite}
use Rattle.wgsl_syntax.specs.declared.result_struct.ResultShape.{ResultShape}
use Rattle.wgsl_syntax.specs.declared.result_struct.ResultPrecision.{ResultPrecision}
use Rattle.wgsl_syntax.specs.declared.texture.TextureType.{TextureType}
use Rattle.wgsl_syntax.specs.declared.texture.TextureType.TheVariants.{Sampled2D, DepthMultisampled2D, External}
use Rattle.wgsl_syntax.specs.declared.call.ScalarKind.{ScalarKind}
use Rattle.wgsl_syntax.specs.declared.call.TextureKind.{TextureKind}
use Rattle.wgsl_syntax.specs.declared.call.Shape.{Shape}
use Rattle.wgsl_syntax.specs.declared.call.ScalarKind.TheVariants.{Boolean, Number, NumberButU32, Integer, Float, F32OrAbstract, I32OrAbstract}
use Rattle.wgsl_syntax.specs.declared.call.TextureKind.TheVariants.{AnyTexture, Sampled, Depth, Arrayed, Multisampled, Storage, SampledOrDepth, DepthOrMultisampledDepth, Sampled2dOrExternal}
use Rattle.wgsl_syntax.specs.declared.call.Shape.TheVariants.{Any, ScalarOf, VectorOf, ScalarOrVectorOf, Vector, ScalarOrVector, Matrix, SquareMatrix, Fraction, TextureOf, PointerToAtomic, PointerInWorkgroup, Query, Acceleration, Structure, To, ToVector}
use Rattle.wgsl_syntax.specs.TextureKind.{IsDepth, IsStorage, IsSampled, IsArrayed, IsMultisampled}
use Rattle.wgsl_rules.specs.types.Types.{vec_of, mat_of, WgslType, scalar, within, pointer, texture, acceleration_structure, vec}
use Rattle.wgsl_rules.specs.types.Kinds.{IsInteger, IsFloat, IsNumeric, IsScalarOrVector, IsVector, IsMatrix, IsStruct, IsAtomic}
use Rattle.wgsl_rules.specs.conversion.Conversion.{ConvertsTo}
use Rattle.wgsl_rules.specs.types.ResultStructs.{shaped, float_of}

abbrev pub IsOfKind : ScalarKind → Scalar → Type 0
IsOfKind Boolean Bool = Unit {0}
IsOfKind Number s = IsNumeric s
IsOfKind NumberButU32 U32 = ⊥
IsOfKind NumberButU32 s = IsNumeric s
IsOfKind Integer s = IsInteger s
IsOfKind Float s = IsFloat s
IsOfKind F32OrAbstract AbstractFloat = Unit {0}
IsOfKind F32OrAbstract F32 = Unit {0}
IsOfKind I32OrAbstract AbstractInt = Unit {0}
IsOfKind I32OrAbstract I32 = Unit {0}
IsOfKind k s = ⊥

abbrev pub IsTextureOf : TextureKind → TextureType → Type 0
IsTextureOf AnyTexture x = Unit {0}
IsTextureOf Sampled x = IsSampled x
IsTextureOf Depth x = IsDepth x
IsTextureOf Arrayed x = IsArrayed x
IsTextureOf Multisampled x = IsMultisampled x
IsTextureOf Storage x = IsStorage x
IsTextureOf SampledOrDepth x = IsSampled x ⊎ IsDepth x
IsTextureOf DepthOrMultisampledDepth DepthMultisampled2D = Unit {0}
IsTextureOf DepthOrMultisampledDepth x = IsDepth x
IsTextureOf Sampled2dOrExternal (Sampled2D s) = Unit {0}
IsTextureOf Sampled2dOrExternal External = Unit {0}
IsTextureOf Sampled2dOrExternal x = ⊥

abbrev pub IsScalarOf : ScalarKind → WgslType → Type 0
IsScalarOf k (scalar s) = IsOfKind k s
IsScalarOf k t = ⊥

abbrev pub IsVectorOf : ScalarKind → WgslType → Type 0
IsVectorOf k (within (vec_of n) t) = IsScalarOf k t
IsVectorOf k t = ⊥

abbrev pub IsScalarOrVectorOf : ScalarKind → WgslType → Type 0
IsScalarOrVectorOf k (scalar s) = IsOfKind k s
IsScalarOrVectorOf k (within (vec_of n) t) = IsScalarOf k t
IsScalarOrVectorOf k t = ⊥

-- a matrix with as many columns as rows
abbrev pub IsSquareMatrix : WgslType → Type 0
IsSquareMatrix (within (mat_of c r) t) = c ≡ r
IsSquareMatrix t = ⊥

-- an abstract float, `f32` or `f16`, or a vector of these with two to four components
abbrev pub IsFraction : WgslType → Type 0
IsFraction t = (s : ResultShape) × (p : ResultPrecision) × (t ≡ shaped s (scalar (float_of p)))

abbrev pub IsTextureTypeOf : TextureKind → WgslType → Type 0
IsTextureTypeOf k (texture x) = IsTextureOf k x
IsTextureTypeOf k t = ⊥

abbrev pub IsPointerToAtomic : WgslType → Type 0
IsPointerToAtomic (pointer s t m) = IsAtomic t
IsPointerToAtomic t = ⊥

abbrev pub IsPointerInWorkgroup : WgslType → Type 0
IsPointerInWorkgroup (pointer s t m) = s ≡ Workgroup
IsPointerInWorkgroup t = ⊥

-- a pointer in the function space, to read and write
abbrev pub IsQuery : WgslType → Type 0
IsQuery (pointer s t m) = (s ≡ Function) × (m ≡ ReadWrite)
IsQuery t = ⊥

abbrev pub IsAccelerationStructure : WgslType → Type 0
IsAccelerationStructure (acceleration_structure f) = Unit {0}
IsAccelerationStructure t = ⊥

abbrev pub Is : Shape → WgslType → Type 0
Is Any t = Unit {0}
Is (ScalarOf k) t = IsScalarOf k t
Is (VectorOf k) t = IsVectorOf k t
Is (ScalarOrVectorOf k) t = IsScalarOrVectorOf k t
Is Vector t = IsVector t
Is ScalarOrVector t = IsScalarOrVector t
Is Matrix t = IsMatrix t
Is SquareMatrix t = IsSquareMatrix t
Is Fraction t = IsFraction t
Is (To s) t = ConvertsTo t (scalar s)
Is (ToVector n s) t = ConvertsTo t (vec n (scalar s))
Is (TextureOf k) t = IsTextureTypeOf k t
Is PointerToAtomic t = IsPointerToAtomic t
Is PointerInWorkgroup t = IsPointerInWorkgroup t
Is Query t = IsQuery t
Is Acceleration t = IsAccelerationStructure t
Is Structure t = IsStruct t
