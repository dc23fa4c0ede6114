-- Types and parameters in groups, by number: values are in the first, samplers, textures of a name and pointers in others.
-- No type of one group fits a parameter of another.
use Rattle.std.specs.Prelude.{ℕ}
use Rattle.wgsl_syntax.specs.declared.overload.Pattern.{Pattern}
use Rattle.wgsl_syntax.specs.declared.overload.Pattern.TheVariants as patterns
use Rattle.wgsl_syntax.specs.declared.overload.Resource.{Resource}
use Rattle.wgsl_syntax.specs.declared.overload.Resource.TheVariants as resources
use Rattle.wgsl_syntax.specs.declared.texture.SamplerType.{SamplerType}
use Rattle.wgsl_syntax.specs.declared.texture.SamplerType.TheVariants.{Sampler, SamplerComparison}
use Rattle.wgsl_syntax.specs.declared.texture.TextureType.{TextureType}
use Rattle.wgsl_syntax.specs.declared.texture.TextureType.TheVariants as textures
use Rattle.wgsl_rules.specs.types.Types.{WgslType, atomic, pointer, texture, sampler}

abbrev pub sampler_group : SamplerType → ℕ
sampler_group Sampler = 1
sampler_group SamplerComparison = 2

abbrev pub texture_group : TextureType → ℕ
texture_group (textures.Sampled1D x) = 3
texture_group (textures.Sampled2D x) = 4
texture_group (textures.Sampled2DArray x) = 5
texture_group (textures.Sampled3D x) = 6
texture_group (textures.SampledCube x) = 7
texture_group (textures.SampledCubeArray x) = 8
texture_group (textures.Sampled1DArray x) = 9
texture_group (textures.Multisampled2D x) = 10
texture_group (textures.Multisampled2DArray x) = 11
texture_group textures.DepthMultisampled2D = 12
texture_group (textures.Storage1D x y) = 13
texture_group (textures.Storage1DArray x y) = 14
texture_group (textures.Storage2D x y) = 15
texture_group (textures.Storage2DArray x y) = 16
texture_group (textures.Storage3D x y) = 17
texture_group textures.External = 18
texture_group textures.Depth2D = 19
texture_group textures.Depth2DArray = 20
texture_group textures.DepthCube = 21
texture_group textures.DepthCubeArray = 22

abbrev pub type_group : WgslType → ℕ
type_group (sampler s) = sampler_group s
type_group (texture t) = texture_group t
type_group (pointer s (atomic t) m) = 23
type_group (pointer s t m) = 24
type_group t = 0

abbrev pub resource_group : Resource → ℕ
resource_group resources.Texture1D = 3
resource_group resources.Texture2D = 4
resource_group resources.Texture2DArray = 5
resource_group resources.Texture3D = 6
resource_group resources.TextureCube = 7
resource_group resources.TextureCubeArray = 8
resource_group resources.TextureMultisampled2D = 10
resource_group (resources.TextureStorage1D u) = 13
resource_group (resources.TextureStorage2D u) = 15
resource_group (resources.TextureStorage2DArray u) = 16
resource_group (resources.TextureStorage3D u) = 17
resource_group resources.AtomicPointer = 23
resource_group resources.WorkgroupAtomicPointer = 23
resource_group resources.WorkgroupPointer = 24
resource_group resources.ArrayPointer = 24

abbrev pub group_of : Pattern → ℕ
group_of (patterns.Value s e) = 0
group_of (patterns.Sampler s) = sampler_group s
group_of (patterns.Texture t) = texture_group t
group_of (patterns.Resource r) = resource_group r
