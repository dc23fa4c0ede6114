-- Texel formats: their names, and what the names say about the channels (WGSL, "Texel Formats").
use Rattle.std.specs.Prelude.{◌≡◌, ◌⊎◌, ℕ, List, [], ◌∷◌, Bool, codes, if◌then◌else◌, nat_eq}
use Rattle.std.specs.List.{ends_with, starts_with}
use Rattle.wgsl_syntax.specs.declared.rules.RuleSet.{RuleSet}
use Rattle.wgsl_syntax.specs.declared.rules.RuleSet.TheVariants.{Standard}
use Rattle.wgsl_syntax.specs.declared.texture.SampledType.{SampledType}
use Rattle.wgsl_syntax.specs.declared.texture.SampledType.TheVariants.{I32, U32, F32}
use Rattle.wgsl_syntax.specs.declared.texel.TexelFormat.{TexelFormat}
use Rattle.wgsl_syntax.specs.declared.texel.TexelFormat.TheVariants.{Rgba8Unorm, Rgba8Snorm, Rgba8Uint, Rgba8Sint, R8Unorm, R8Snorm, R8Uint, R8Sint, Rg8Unorm, Rg8Snorm, Rg8Uint, Rg8Sint, Rgba16Unorm, Rgba16Snorm, Rgba16Uint, Rgba16Sint, Rgba16Float, R16Unorm, R16Snorm, R16Uint, R16Sint, R16Float, Rg16Unorm, Rg16Snorm, Rg16Uint, Rg16Sint, Rg16Float, R32Uint, R32Sint, R32Float, Rg32Uint, Rg32Sint, Rg32Float, Rgba32Uint, Rgba32Sint, Rgba32Float, Bgra8Unorm, Rgb10a2Uint, Rgb10a2Unorm, Rg11b10Float, R64Uint}

abbrev pub texel_formats : List TexelFormat
texel_formats = Rgba8Unorm ∷ Rgba8Snorm ∷ Rgba8Uint ∷ Rgba8Sint ∷ R8Unorm ∷ R8Snorm ∷ R8Uint ∷ R8Sint ∷ Rg8Unorm ∷ Rg8Snorm ∷ Rg8Uint ∷ Rg8Sint ∷ Rgba16Unorm ∷ Rgba16Snorm ∷ Rgba16Uint ∷ Rgba16Sint ∷ Rgba16Float ∷ R16Unorm ∷ R16Snorm ∷ R16Uint ∷ R16Sint ∷ R16Float ∷ Rg16Unorm ∷ Rg16Snorm ∷ Rg16Uint ∷ Rg16Sint ∷ Rg16Float ∷ R32Uint ∷ R32Sint ∷ R32Float ∷ Rg32Uint ∷ Rg32Sint ∷ Rg32Float ∷ Rgba32Uint ∷ Rgba32Sint ∷ Rgba32Float ∷ Bgra8Unorm ∷ Rgb10a2Uint ∷ Rgb10a2Unorm ∷ Rg11b10Float ∷ R64Uint ∷ []

abbrev pub texel_text : TexelFormat → List ℕ
texel_text Rgba8Unorm = codes "rgba8unorm"
texel_text Rgba8Snorm = codes "rgba8snorm"
texel_text Rgba8Uint = codes "rgba8uint"
texel_text Rgba8Sint = codes "rgba8sint"
texel_text R8Unorm = codes "r8unorm"
texel_text R8Snorm = codes "r8snorm"
texel_text R8Uint = codes "r8uint"
texel_text R8Sint = codes "r8sint"
texel_text Rg8Unorm = codes "rg8unorm"
texel_text Rg8Snorm = codes "rg8snorm"
texel_text Rg8Uint = codes "rg8uint"
texel_text Rg8Sint = codes "rg8sint"
texel_text Rgba16Unorm = codes "rgba16unorm"
texel_text Rgba16Snorm = codes "rgba16snorm"
texel_text Rgba16Uint = codes "rgba16uint"
texel_text Rgba16Sint = codes "rgba16sint"
texel_text Rgba16Float = codes "rgba16float"
texel_text R16Unorm = codes "r16unorm"
texel_text R16Snorm = codes "r16snorm"
texel_text R16Uint = codes "r16uint"
texel_text R16Sint = codes "r16sint"
texel_text R16Float = codes "r16float"
texel_text Rg16Unorm = codes "rg16unorm"
texel_text Rg16Snorm = codes "rg16snorm"
texel_text Rg16Uint = codes "rg16uint"
texel_text Rg16Sint = codes "rg16sint"
texel_text Rg16Float = codes "rg16float"
texel_text R32Uint = codes "r32uint"
texel_text R32Sint = codes "r32sint"
texel_text R32Float = codes "r32float"
texel_text Rg32Uint = codes "rg32uint"
texel_text Rg32Sint = codes "rg32sint"
texel_text Rg32Float = codes "rg32float"
texel_text Rgba32Uint = codes "rgba32uint"
texel_text Rgba32Sint = codes "rgba32sint"
texel_text Rgba32Float = codes "rgba32float"
texel_text Bgra8Unorm = codes "bgra8unorm"
texel_text Rgb10a2Uint = codes "rgb10a2uint"
texel_text Rgb10a2Unorm = codes "rgb10a2unorm"
texel_text Rg11b10Float = codes "rg11b10float"
texel_text R64Uint = codes "r64uint"

-- the format's name by these rules: WGSL calls `rg11b10ufloat` what naga calls `rg11b10float`
abbrev pub texel_text_by : RuleSet → TexelFormat → List ℕ
texel_text_by Standard Rg11b10Float = codes "rg11b10ufloat"
texel_text_by rules format = texel_text format

-- the word is the format's name by these rules, or naga's
abbrev pub IsTexel : RuleSet → List ℕ → TexelFormat → Type 0
IsTexel rules word format = (word ≡ texel_text_by rules format) ⊎ (word ≡ texel_text format)

-- names of unsigned formats end in `uint`, of signed formats in `sint`; all others are read as floats
abbrev pub channel_type : TexelFormat → SampledType
channel_type format =
    if ends_with nat_eq (texel_text format) (codes "uint") then U32 else
    (if ends_with nat_eq (texel_text format) (codes "sint") then I32 else F32)

abbrev begins : TexelFormat → List ℕ → Bool
begins format channels = starts_with nat_eq (texel_text format) channels

-- a format's name begins with its channels, but `rg11b10` has `b` later
abbrev pub channel_count : TexelFormat → ℕ
channel_count format =
    if begins format (codes "rgb") then 4 else
    (if begins format (codes "bgra") then 4 else
    (if begins format (codes "rg11b10") then 3 else
    (if begins format (codes "rg") then 2 else 1)))
