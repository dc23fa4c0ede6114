-- The type inside a type, and the sampled types of textures (WGSL, "Composite Types", "Memory Views" and
-- "Sampled Texture Types").
use Rattle.std.specs.Prelude.{Option, Some, None}
use Rattle.wgsl_syntax.specs.declared.scalar.Scalar.TheVariants as scalars
use Rattle.wgsl_syntax.specs.declared.texture.SampledType.{SampledType}
use Rattle.wgsl_syntax.specs.declared.texture.SampledType.TheVariants.{I32, U32, F32}
use Rattle.wgsl_rules.specs.types.Types.{WgslType, scalar, within, atomic, pointer, reference, binding_array}

-- the type inside an array, a vector, a matrix, an atomic, a pointer, a reference or a binding array
abbrev pub inner_of : WgslType → WgslType
inner_of (within l t) = t
inner_of (atomic t) = t
inner_of (pointer s t m) = t
inner_of (reference s t m) = t
inner_of (binding_array n t) = t
-- any other type is its own inner type
inner_of t = t

-- the sampled type that the type names, if it is one
abbrev pub sampled_of : WgslType → Option SampledType
sampled_of (scalar scalars.I32) = Some I32
sampled_of (scalar scalars.U32) = Some U32
sampled_of (scalar scalars.F32) = Some F32
sampled_of t = None
