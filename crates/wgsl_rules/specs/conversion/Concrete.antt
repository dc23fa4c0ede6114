-- Abstract types, and the concrete type for each (WGSL, "Abstract Numeric Types").
use Rattle.std.specs.Prelude.{Bool, true, false, cond, IsTrue}
use Rattle.wgsl_syntax.specs.declared.scalar.Scalar.TheVariants.{AbstractInt, AbstractFloat, I32, F32}
use Rattle.wgsl_rules.specs.types.Types.{mat_of, WgslType, scalar, within}
use Rattle.wgsl_rules.specs.types.Kinds.{IsFloatScalar, IsPlain}

-- an abstract number, or an array, a vector or a matrix of an abstract type
abbrev pub is_abstract : WgslType → Bool
is_abstract (scalar AbstractInt) = true
is_abstract (scalar AbstractFloat) = true
is_abstract (within l t) = is_abstract t
is_abstract t = false

abbrev pub IsAbstract : WgslType → Type 0
IsAbstract t = IsTrue (is_abstract t)

-- a concrete plain type (WGSL, "Storable Types", but without textures and samplers)
abbrev pub IsStorable : WgslType → Type 0
IsStorable t = (¬ IsAbstract t) × IsPlain t

-- Each matrix within arrays and vectors has float components.
abbrev pub HasFloatMatrices : WgslType → Type 0
HasFloatMatrices (within (mat_of c r) t) = IsFloatScalar t
HasFloatMatrices (within l t) = HasFloatMatrices t
HasFloatMatrices t = Unit {0}

abbrev pub concretized : WgslType → WgslType
concretized (scalar AbstractInt) = scalar I32
concretized (scalar AbstractFloat) = scalar F32
-- a matrix of an abstract type becomes one of `f32`
concretized (within (mat_of c r) t) = cond (is_abstract t) (within (mat_of c r) (scalar F32)) (within (mat_of c r) t)
-- an array or a vector becomes one of the concrete element type
concretized (within l t) = within l (concretized t)
-- any other type stays
concretized t = t
