-- The textures and the pointers that parameters take (WGSL, "Texture Built-in Functions", "Atomic Built-in Functions",
-- "arrayLength" and "workgroupUniformLoad").
use Rattle.std.specs.Prelude.{Option, Some, None, Bool, true, false, cond, not, ◌&&◌}
use Rattle.wgsl_syntax.specs.Texel.{channel_type}
use Rattle.wgsl_syntax.specs.TextureKind.{sampled_scalar}
use Rattle.wgsl_syntax.specs.declared.scalar.Scalar.{Scalar}
use Rattle.wgsl_syntax.specs.declared.scalar.Scalar.TheVariants.{F32, F16}
use Rattle.wgsl_syntax.specs.declared.address.AddressSpace.{AddressSpace}
use Rattle.wgsl_syntax.specs.declared.address.AddressSpace.TheVariants.{Workgroup, Storage}
use Rattle.wgsl_syntax.specs.declared.address.AccessMode.{AccessMode}
use Rattle.wgsl_syntax.specs.declared.address.AccessMode.TheVariants.{Read, Write, ReadWrite}
use Rattle.wgsl_syntax.specs.declared.texel.TexelFormat.{TexelFormat}
use Rattle.wgsl_syntax.specs.declared.texture.TextureType.{TextureType}
use Rattle.wgsl_syntax.specs.declared.texture.TextureType.TheVariants as textures
use Rattle.wgsl_syntax.specs.declared.result_struct.ResultPrecision.{ResultPrecision}
use Rattle.wgsl_syntax.specs.declared.result_struct.ResultPrecision.TheVariants as precision
use Rattle.wgsl_syntax.specs.declared.overload.Usage.{Usage}
use Rattle.wgsl_syntax.specs.declared.overload.Usage.TheVariants.{Reads, Writes, Asks}
use Rattle.wgsl_syntax.specs.declared.overload.Resource.{Resource}
use Rattle.wgsl_syntax.specs.declared.overload.Resource.TheVariants.{Texture1D, Texture2D, Texture2DArray, Texture3D, TextureCube, TextureCubeArray, TextureMultisampled2D, TextureStorage1D, TextureStorage2D, TextureStorage2DArray, TextureStorage3D, AtomicPointer, WorkgroupAtomicPointer, WorkgroupPointer, ArrayPointer}
use Rattle.wgsl_rules.specs.types.Types.{WgslType, Members, no_members, member, array_of, scalar, within, struct, atomic, pointer, texture}
use Rattle.wgsl_rules.specs.conversion.Concrete.{is_abstract}

-- whether storage textures of an access mode are used so
abbrev pub suits : Usage → AccessMode → Bool
suits Reads Read = true
suits Reads ReadWrite = true
suits Writes Write = true
suits Writes ReadWrite = true
suits Asks Read = true
suits Asks Write = true
suits Asks ReadWrite = true
suits usage access = false

-- the precision of the result struct of a short float
abbrev pub precision_of : Scalar → ResultPrecision
precision_of F32 = precision.F32
precision_of F16 = precision.F16
precision_of s = precision.Abstract

abbrev channels : Bool → TexelFormat → Option (Option Scalar)
channels suited format = cond suited (Some (Some (sampled_scalar (channel_type format)))) None

-- what a texture says of the letter T: for a sampled one its sampled type, for a storage one the type of its channels
abbrev pub texture_letter : Resource → TextureType → Option (Option Scalar)
texture_letter Texture1D (textures.Sampled1D s) = Some (Some (sampled_scalar s))
texture_letter Texture2D (textures.Sampled2D s) = Some (Some (sampled_scalar s))
texture_letter Texture2DArray (textures.Sampled2DArray s) = Some (Some (sampled_scalar s))
texture_letter Texture3D (textures.Sampled3D s) = Some (Some (sampled_scalar s))
texture_letter TextureCube (textures.SampledCube s) = Some (Some (sampled_scalar s))
texture_letter TextureCubeArray (textures.SampledCubeArray s) = Some (Some (sampled_scalar s))
texture_letter TextureMultisampled2D (textures.Multisampled2D s) = Some (Some (sampled_scalar s))
texture_letter (TextureStorage1D u) (textures.Storage1D f m) = channels (suits u m) f
texture_letter (TextureStorage2D u) (textures.Storage2D f m) = channels (suits u m) f
texture_letter (TextureStorage2DArray u) (textures.Storage2DArray f m) = channels (suits u m) f
texture_letter (TextureStorage3D u) (textures.Storage3D f m) = channels (suits u m) f
-- it is not of the set
texture_letter r t = None

-- a concrete type whose values a function can make (WGSL, "Constructible Types")

abbrev mutual
  pub is_constructible : WgslType → Bool
  is_constructible (scalar s) = not (is_abstract (scalar s))
  is_constructible (within (array_of None) t) = false
  is_constructible (within l t) = is_constructible t
  is_constructible (struct name ms) = are_constructible ms
  is_constructible t = false

  pub are_constructible : Members → Bool
  are_constructible no_members = true
  are_constructible (member name t size align ms) = is_constructible t && are_constructible ms

-- an atomic that can be read and written, of a concrete type
abbrev pub atomic_letter : WgslType → AccessMode → Option (Option Scalar)
atomic_letter (atomic (scalar s)) ReadWrite = cond (is_abstract (scalar s)) None (Some (Some s))
atomic_letter t m = None

abbrev pub constructible_letter : WgslType → AccessMode → Option (Option Scalar)
constructible_letter t ReadWrite = cond (is_constructible t) (Some None) None
constructible_letter t m = None

-- a runtime-sized array
abbrev pub array_letter : WgslType → AccessMode → Option (Option Scalar)
array_letter (within (array_of None) t) Read = Some None
array_letter (within (array_of None) t) ReadWrite = Some None
array_letter t m = None

-- what a pointer to a type says of T
abbrev pub pointer_letter : Resource → AddressSpace → WgslType → AccessMode → Option (Option Scalar)
pointer_letter AtomicPointer Workgroup t m = atomic_letter t m
pointer_letter AtomicPointer Storage t m = atomic_letter t m
pointer_letter WorkgroupAtomicPointer Workgroup t m = atomic_letter t m
pointer_letter WorkgroupPointer Workgroup t m = constructible_letter t m
pointer_letter ArrayPointer Storage t m = array_letter t m
pointer_letter r s t m = None

-- what a type says of the letter T, if it is of the set
abbrev pub letter_of : Resource → WgslType → Option (Option Scalar)
letter_of r (texture x) = texture_letter r x
letter_of r (pointer s t m) = pointer_letter r s t m
letter_of r t = None
