-- The dimensions, the sampled type and the kind of each texture (WGSL, "Texture and Sampler Types").
use Rattle.std.specs.Prelude.{◌≡◌, Option, Some, None, ⊤}
use Rattle.wgsl_syntax.specs.Texel.{channel_type}
use Rattle.wgsl_syntax.specs.TextureName.{kind_of, parameters_of}
use Rattle.wgsl_syntax.specs.declared.scalar.Scalar.{Scalar}
use Rattle.wgsl_syntax.specs.declared.scalar.Scalar.TheVariants as scalars
use Rattle.wgsl_syntax.specs.declared.texture.SampledType.{SampledType}
use Rattle.wgsl_syntax.specs.declared.texture.SampledType.TheVariants.{I32, U32, F32}
use Rattle.wgsl_syntax.specs.declared.texture.TextureDimensions.{TextureDimensions}
use Rattle.wgsl_syntax.specs.declared.texture.TextureDimensions.TheVariants.{D1, D2, D3}
use Rattle.wgsl_syntax.specs.declared.texture.TextureType.{TextureType}
use Rattle.wgsl_syntax.specs.declared.texture.TextureType.TheVariants.{Sampled1D, Sampled2DArray, Sampled3D, SampledCubeArray, Sampled1DArray, Multisampled2D, Multisampled2DArray, DepthMultisampled2D, Storage1D, Storage1DArray, Storage2DArray, Storage3D, Depth2D, Depth2DArray, DepthCube, DepthCubeArray}
use Rattle.wgsl_syntax.specs.declared.texture_name.TextureParameterKind.TheVariants as kinds
use Rattle.wgsl_syntax.specs.declared.texture_name.TextureParameters.{TextureParameters}
use Rattle.wgsl_syntax.specs.declared.texture_name.TextureParameters.TheVariants as parameters

abbrev pub dimensions : TextureType → TextureDimensions
dimensions (Sampled1D _) = D1
dimensions (Sampled1DArray _) = D1
dimensions (Storage1D _ _) = D1
dimensions (Storage1DArray _ _) = D1
dimensions (Sampled3D _) = D3
dimensions (Storage3D _ _) = D3
dimensions _ = D2

abbrev sampled_by : TextureParameters → Option SampledType
sampled_by (parameters.Sampled sampled) = Some sampled
sampled_by _ = None

-- not of `texture_multisampled_2d`
abbrev pub sampled_type : TextureType → Option SampledType
sampled_type (Multisampled2D _) = None
sampled_type t = sampled_by (parameters_of t)

abbrev pub sampled_scalar : SampledType → Scalar
sampled_scalar I32 = scalars.I32
sampled_scalar U32 = scalars.U32
sampled_scalar F32 = scalars.F32

-- the type that the channels of a texture with these parameters are read as
abbrev channel_by : TextureParameters → SampledType
channel_by (parameters.Sampled sampled) = sampled
channel_by (parameters.Storage format _) = channel_type format
channel_by parameters.None = F32

-- the type that a texture's channels are read as: `f32` for depth and external textures
abbrev pub texture_channel : TextureType → SampledType
texture_channel t = channel_by (parameters_of t)

abbrev pub IsDepth : TextureType → Type 0
IsDepth Depth2D = ⊤
IsDepth Depth2DArray = ⊤
IsDepth DepthCube = ⊤
IsDepth DepthCubeArray = ⊤
IsDepth _ = ⊥

abbrev pub IsStorage : TextureType → Type 0
IsStorage t = kind_of (parameters_of t) ≡ kinds.Storage

abbrev pub IsArrayed : TextureType → Type 0
IsArrayed (Sampled1DArray _) = ⊤
IsArrayed (Sampled2DArray _) = ⊤
IsArrayed (SampledCubeArray _) = ⊤
IsArrayed (Multisampled2DArray _) = ⊤
IsArrayed (Storage1DArray _ _) = ⊤
IsArrayed (Storage2DArray _ _) = ⊤
IsArrayed Depth2DArray = ⊤
IsArrayed DepthCubeArray = ⊤
IsArrayed _ = ⊥

abbrev pub IsMultisampled : TextureType → Type 0
IsMultisampled (Multisampled2D _) = ⊤
IsMultisampled (Multisampled2DArray _) = ⊤
IsMultisampled DepthMultisampled2D = ⊤
IsMultisampled _ = ⊥

abbrev pub IsSampled : TextureType → Type 0
IsSampled t = (kind_of (parameters_of t) ≡ kinds.Sampled) × ¬ IsMultisampled t
