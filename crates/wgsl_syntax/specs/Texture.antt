-- How textures and samplers are written (WGSL, "Texture and Sampler Types").
use Rattle.std.specs.Prelude.{ℕ, List, [], ◌∷◌, ◌++◌, codes}
use Rattle.wgsl_syntax.specs.Address.{access_text}
use Rattle.wgsl_syntax.specs.Texel.{texel_text_by}
use Rattle.wgsl_syntax.specs.TextureName.{name_of, parameters_of, texture_name_text}
use Rattle.wgsl_syntax.specs.declared.rules.RuleSet.{RuleSet}
use Rattle.wgsl_syntax.specs.declared.rules.RuleSet.TheVariants.{Ported}
use Rattle.wgsl_syntax.specs.declared.texture.SampledType.{SampledType}
use Rattle.wgsl_syntax.specs.declared.texture.SampledType.TheVariants.{I32, U32, F32}
use Rattle.wgsl_syntax.specs.declared.texture.SamplerType.{SamplerType}
use Rattle.wgsl_syntax.specs.declared.texture.SamplerType.TheVariants.{Sampler, SamplerComparison}
use Rattle.wgsl_syntax.specs.declared.texture.TextureType.{TextureType}
use Rattle.wgsl_syntax.specs.declared.texture_name.TextureParameters.{TextureParameters}
use Rattle.wgsl_syntax.specs.declared.texture_name.TextureParameters.TheVariants.{None, Sampled, Storage}

abbrev pub sampled_types : List SampledType
sampled_types = I32 ∷ U32 ∷ F32 ∷ []

abbrev pub sampled_text : SampledType → List ℕ
sampled_text I32 = codes "i32"
sampled_text U32 = codes "u32"
sampled_text F32 = codes "f32"

abbrev pub samplers : List SamplerType
samplers = Sampler ∷ SamplerComparison ∷ []

abbrev pub sampler_text : SamplerType → List ℕ
sampler_text Sampler = codes "sampler"
sampler_text SamplerComparison = codes "sampler_comparison"

-- the name without the parameters
abbrev pub texture_name : TextureType → List ℕ
texture_name t = texture_name_text (name_of t)

-- the parameters of a template, between angle brackets, if there are any
abbrev parameters_text : RuleSet → TextureParameters → List ℕ
parameters_text rules None = []
parameters_text rules (Sampled sampled) = codes "<" ++ sampled_text sampled ++ codes ">"
parameters_text rules (Storage format access) =
    codes "<" ++ texel_text_by rules format ++ codes ", " ++ access_text access ++ codes ">"

-- `texture_2d<f32>`, `texture_storage_2d<rgba8unorm, write>`, `texture_depth_2d`
abbrev pub texture_text_by : RuleSet → TextureType → List ℕ
texture_text_by rules t = texture_name t ++ parameters_text rules (parameters_of t)

-- by naga's names of texel formats
abbrev pub texture_text : TextureType → List ℕ
texture_text t = texture_text_by Ported t
