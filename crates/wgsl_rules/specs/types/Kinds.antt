-- Kinds of types (WGSL, "Plain Types").
pub use Rattle.wgsl_syntax.specs.Scalar.{IsInteger, IsFloat, IsNumeric}
use Rattle.wgsl_syntax.specs.declared.scalar.Scalar.TheVariants.{AbstractInt}
use Rattle.wgsl_syntax.specs.declared.address.AddressSpace.TheVariants.{Handle}
use Rattle.wgsl_rules.specs.types.Types.{array_of, vec_of, mat_of, WgslType, scalar, within, struct, atomic, reference, texture, sampler, ray_query, acceleration_structure}

-- an integer, or a vector of integers
abbrev pub IsIntegerOrVector : WgslType → Type 0
IsIntegerOrVector (scalar s) = IsInteger s
IsIntegerOrVector (within (vec_of n) (scalar s)) = IsInteger s
IsIntegerOrVector t = ⊥

-- a number, or a vector of numbers
abbrev pub IsNumericOrVector : WgslType → Type 0
IsNumericOrVector (scalar s) = IsNumeric s
IsNumericOrVector (within (vec_of n) (scalar s)) = IsNumeric s
IsNumericOrVector t = ⊥

-- a float, or a vector of floats
abbrev pub IsFloatOrVector : WgslType → Type 0
IsFloatOrVector (scalar s) = IsFloat s
IsFloatOrVector (within (vec_of n) (scalar s)) = IsFloat s
IsFloatOrVector t = ⊥

-- a vector of floats
abbrev pub IsFloatVector : WgslType → Type 0
IsFloatVector (within (vec_of n) (scalar s)) = IsFloat s
IsFloatVector t = ⊥

-- `AbstractInt`, or a vector of it
abbrev pub IsAbstractIntOrVector : WgslType → Type 0
IsAbstractIntOrVector (scalar AbstractInt) = Unit {0}
IsAbstractIntOrVector (within (vec_of n) (scalar AbstractInt)) = Unit {0}
IsAbstractIntOrVector t = ⊥

abbrev pub IsScalarOrVector : WgslType → Type 0
IsScalarOrVector (scalar s) = Unit {0}
IsScalarOrVector (within (vec_of n) t) = Unit {0}
IsScalarOrVector t = ⊥

abbrev pub IsScalar : WgslType → Type 0
IsScalar (scalar s) = Unit {0}
IsScalar t = ⊥

abbrev pub IsIntegerScalar : WgslType → Type 0
IsIntegerScalar (scalar s) = IsInteger s
IsIntegerScalar t = ⊥

abbrev pub IsFloatScalar : WgslType → Type 0
IsFloatScalar (scalar s) = IsFloat s
IsFloatScalar t = ⊥

abbrev pub IsNumericScalar : WgslType → Type 0
IsNumericScalar (scalar s) = IsNumeric s
IsNumericScalar t = ⊥

abbrev pub IsArray : WgslType → Type 0
IsArray (within (array_of n) t) = Unit {0}
IsArray t = ⊥

abbrev pub IsVector : WgslType → Type 0
IsVector (within (vec_of n) t) = Unit {0}
IsVector t = ⊥

abbrev pub IsMatrix : WgslType → Type 0
IsMatrix (within (mat_of c r) t) = Unit {0}
IsMatrix t = ⊥

abbrev pub IsStruct : WgslType → Type 0
IsStruct (struct name ms) = Unit {0}
IsStruct t = ⊥

abbrev pub IsAtomic : WgslType → Type 0
IsAtomic (atomic t) = Unit {0}
IsAtomic t = ⊥

-- a scalar, an atomic, or a composite type (WGSL, "Plain Types")
abbrev pub IsPlain : WgslType → Type 0
IsPlain (scalar s) = Unit {0}
IsPlain (within l t) = Unit {0}
IsPlain (struct name ms) = Unit {0}
IsPlain (atomic t) = Unit {0}
IsPlain t = ⊥

-- A leaf type has no other type inside and no name: a scalar, a texture, a sampler, a ray query or an acceleration
-- structure.
abbrev pub IsLeaf : WgslType → Type 0
IsLeaf (scalar s) = Unit {0}
IsLeaf (texture t) = Unit {0}
IsLeaf (sampler s) = Unit {0}
IsLeaf (ray_query f) = Unit {0}
IsLeaf (acceleration_structure f) = Unit {0}
IsLeaf t = ⊥

-- a reference in the handle space, to which there are no pointers
abbrev pub IsInHandleSpace : WgslType → Type 0
IsInHandleSpace (reference Handle t m) = Unit {0}
IsInHandleSpace t = ⊥
