-- The names of textures, and the parameters of their templates (WGSL, "Texture and Sampler Types").
use Rattle.std.specs.Prelude.{ℕ, List, [], ◌∷◌, Option, Some, None, codes}
use Rattle.wgsl_syntax.specs.declared.texture.TextureType.{TextureType}
use Rattle.wgsl_syntax.specs.declared.texture.TextureType.TheVariants as textures
use Rattle.wgsl_syntax.specs.declared.texture_name.TextureName.{TextureName}
use Rattle.wgsl_syntax.specs.declared.texture_name.TextureName.TheVariants.{Sampled1D, Sampled2D, Sampled2DArray, Sampled3D, SampledCube, SampledCubeArray, Sampled1DArray, Multisampled2D, Multisampled2DArray, DepthMultisampled2D, Storage1D, Storage1DArray, Storage2D, Storage2DArray, Storage3D, External, Depth2D, Depth2DArray, DepthCube, DepthCubeArray}
use Rattle.wgsl_syntax.specs.declared.texture_name.TextureParameterKind.{TextureParameterKind}
use Rattle.wgsl_syntax.specs.declared.texture_name.TextureParameterKind.TheVariants as kinds
use Rattle.wgsl_syntax.specs.declared.texture_name.TextureParameters.{TextureParameters}
use Rattle.wgsl_syntax.specs.declared.texture_name.TextureParameters.TheVariants as parameters

abbrev pub texture_names : List TextureName
texture_names = Sampled1D ∷ Sampled2D ∷ Sampled2DArray ∷ Sampled3D ∷ SampledCube ∷ SampledCubeArray ∷ Sampled1DArray ∷ Multisampled2D ∷ Multisampled2DArray ∷ DepthMultisampled2D ∷ Storage1D ∷ Storage1DArray ∷ Storage2D ∷ Storage2DArray ∷ Storage3D ∷ External ∷ Depth2D ∷ Depth2DArray ∷ DepthCube ∷ DepthCubeArray ∷ []

abbrev pub texture_name_text : TextureName → List ℕ
texture_name_text Sampled1D = codes "texture_1d"
texture_name_text Sampled2D = codes "texture_2d"
texture_name_text Sampled2DArray = codes "texture_2d_array"
texture_name_text Sampled3D = codes "texture_3d"
texture_name_text SampledCube = codes "texture_cube"
texture_name_text SampledCubeArray = codes "texture_cube_array"
texture_name_text Sampled1DArray = codes "texture_1d_array"
texture_name_text Multisampled2D = codes "texture_multisampled_2d"
texture_name_text Multisampled2DArray = codes "texture_multisampled_2d_array"
texture_name_text DepthMultisampled2D = codes "texture_depth_multisampled_2d"
texture_name_text Storage1D = codes "texture_storage_1d"
texture_name_text Storage1DArray = codes "texture_storage_1d_array"
texture_name_text Storage2D = codes "texture_storage_2d"
texture_name_text Storage2DArray = codes "texture_storage_2d_array"
texture_name_text Storage3D = codes "texture_storage_3d"
texture_name_text External = codes "texture_external"
texture_name_text Depth2D = codes "texture_depth_2d"
texture_name_text Depth2DArray = codes "texture_depth_2d_array"
texture_name_text DepthCube = codes "texture_depth_cube"
texture_name_text DepthCubeArray = codes "texture_depth_cube_array"

abbrev pub name_of : TextureType → TextureName
name_of (textures.Sampled1D sampled) = Sampled1D
name_of (textures.Sampled2D sampled) = Sampled2D
name_of (textures.Sampled2DArray sampled) = Sampled2DArray
name_of (textures.Sampled3D sampled) = Sampled3D
name_of (textures.SampledCube sampled) = SampledCube
name_of (textures.SampledCubeArray sampled) = SampledCubeArray
name_of (textures.Sampled1DArray sampled) = Sampled1DArray
name_of (textures.Multisampled2D sampled) = Multisampled2D
name_of (textures.Multisampled2DArray sampled) = Multisampled2DArray
name_of textures.DepthMultisampled2D = DepthMultisampled2D
name_of (textures.Storage1D format access) = Storage1D
name_of (textures.Storage1DArray format access) = Storage1DArray
name_of (textures.Storage2D format access) = Storage2D
name_of (textures.Storage2DArray format access) = Storage2DArray
name_of (textures.Storage3D format access) = Storage3D
name_of textures.External = External
name_of textures.Depth2D = Depth2D
name_of textures.Depth2DArray = Depth2DArray
name_of textures.DepthCube = DepthCube
name_of textures.DepthCubeArray = DepthCubeArray

-- the sampled type, or the texel format and the access mode, if the type has them
abbrev pub parameters_of : TextureType → TextureParameters
parameters_of (textures.Sampled1D sampled) = parameters.Sampled sampled
parameters_of (textures.Sampled2D sampled) = parameters.Sampled sampled
parameters_of (textures.Sampled2DArray sampled) = parameters.Sampled sampled
parameters_of (textures.Sampled3D sampled) = parameters.Sampled sampled
parameters_of (textures.SampledCube sampled) = parameters.Sampled sampled
parameters_of (textures.SampledCubeArray sampled) = parameters.Sampled sampled
parameters_of (textures.Sampled1DArray sampled) = parameters.Sampled sampled
parameters_of (textures.Multisampled2D sampled) = parameters.Sampled sampled
parameters_of (textures.Multisampled2DArray sampled) = parameters.Sampled sampled
parameters_of (textures.Storage1D format access) = parameters.Storage format access
parameters_of (textures.Storage1DArray format access) = parameters.Storage format access
parameters_of (textures.Storage2D format access) = parameters.Storage format access
parameters_of (textures.Storage2DArray format access) = parameters.Storage format access
parameters_of (textures.Storage3D format access) = parameters.Storage format access
parameters_of t = parameters.None

-- which parameters these are
abbrev pub kind_of : TextureParameters → TextureParameterKind
kind_of parameters.None = kinds.None
kind_of (parameters.Sampled sampled) = kinds.Sampled
kind_of (parameters.Storage format access) = kinds.Storage

-- which parameters textures of this name have
abbrev pub parameter_kind : TextureName → TextureParameterKind
parameter_kind Sampled1D = kinds.Sampled
parameter_kind Sampled2D = kinds.Sampled
parameter_kind Sampled2DArray = kinds.Sampled
parameter_kind Sampled3D = kinds.Sampled
parameter_kind SampledCube = kinds.Sampled
parameter_kind SampledCubeArray = kinds.Sampled
parameter_kind Sampled1DArray = kinds.Sampled
parameter_kind Multisampled2D = kinds.Sampled
parameter_kind Multisampled2DArray = kinds.Sampled
parameter_kind Storage1D = kinds.Storage
parameter_kind Storage1DArray = kinds.Storage
parameter_kind Storage2D = kinds.Storage
parameter_kind Storage2DArray = kinds.Storage
parameter_kind Storage3D = kinds.Storage
parameter_kind n = kinds.None

-- the texture with this name and these parameters
abbrev pub texture_with : TextureName → TextureParameters → Option TextureType
texture_with Sampled1D (parameters.Sampled sampled) = Some (textures.Sampled1D sampled)
texture_with Sampled2D (parameters.Sampled sampled) = Some (textures.Sampled2D sampled)
texture_with Sampled2DArray (parameters.Sampled sampled) = Some (textures.Sampled2DArray sampled)
texture_with Sampled3D (parameters.Sampled sampled) = Some (textures.Sampled3D sampled)
texture_with SampledCube (parameters.Sampled sampled) = Some (textures.SampledCube sampled)
texture_with SampledCubeArray (parameters.Sampled sampled) = Some (textures.SampledCubeArray sampled)
texture_with Sampled1DArray (parameters.Sampled sampled) = Some (textures.Sampled1DArray sampled)
texture_with Multisampled2D (parameters.Sampled sampled) = Some (textures.Multisampled2D sampled)
texture_with Multisampled2DArray (parameters.Sampled sampled) = Some (textures.Multisampled2DArray sampled)
texture_with DepthMultisampled2D parameters.None = Some textures.DepthMultisampled2D
texture_with Storage1D (parameters.Storage format access) = Some (textures.Storage1D format access)
texture_with Storage1DArray (parameters.Storage format access) = Some (textures.Storage1DArray format access)
texture_with Storage2D (parameters.Storage format access) = Some (textures.Storage2D format access)
texture_with Storage2DArray (parameters.Storage format access) = Some (textures.Storage2DArray format access)
texture_with Storage3D (parameters.Storage format access) = Some (textures.Storage3D format access)
texture_with External parameters.None = Some textures.External
texture_with Depth2D parameters.None = Some textures.Depth2D
texture_with Depth2DArray parameters.None = Some textures.Depth2DArray
texture_with DepthCube parameters.None = Some textures.DepthCube
texture_with DepthCubeArray parameters.None = Some textures.DepthCubeArray
texture_with n p = None
