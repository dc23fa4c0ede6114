-- Values of enumerations by their names: by WGSL's, or else by naga's where that is another one.
use Rattle.std.specs.Prelude.{ℕ, List, Option, Some, None}
use Rattle.wgsl_syntax.specs.Address.{access_modes, access_text, space_text, space_text_by, spaces}
use Rattle.wgsl_syntax.specs.Attribute.{flag_text, flags}
use Rattle.wgsl_syntax.specs.Names.{named, table}
use Rattle.wgsl_syntax.specs.Texel.{texel_formats, texel_text, texel_text_by}
use Rattle.wgsl_syntax.specs.Texture.{sampled_text, sampled_types}
use Rattle.wgsl_syntax.specs.declared.address.AccessMode.{AccessMode}
use Rattle.wgsl_syntax.specs.declared.address.AddressSpace.{AddressSpace}
use Rattle.wgsl_syntax.specs.declared.attribute.AccelerationStructureFlags.{AccelerationStructureFlags}
use Rattle.wgsl_syntax.specs.declared.rules.RuleSet.TheVariants.{Standard}
use Rattle.wgsl_syntax.specs.declared.texel.TexelFormat.{TexelFormat}
use Rattle.wgsl_syntax.specs.declared.texture.SampledType.{SampledType}

abbrev pub or_else : {A : Type 0} → Option A → Option A → Option A
or_else None other = other
or_else (Some x) other = Some x

-- `read`
abbrev pub access_named : List ℕ → Option AccessMode
access_named name = named (table access_text access_modes) name

-- `f32`, `i32`, `u32`
abbrev pub sampled_named : List ℕ → Option SampledType
sampled_named name = named (table sampled_text sampled_types) name

-- `vertex_return`
abbrev pub flag_named : List ℕ → Option AccelerationStructureFlags
flag_named name = named (table flag_text flags) name

-- `function`; `immediate` or naga's `push_constant`
abbrev pub space_named : List ℕ → Option AddressSpace
space_named name = or_else (named (table (space_text_by Standard) spaces) name) (named (table space_text spaces) name)

-- `rgba8unorm`; `rg11b10ufloat` or naga's `rg11b10float`
abbrev pub format_named : List ℕ → Option TexelFormat
format_named name = or_else (named (table (texel_text_by Standard) texel_formats) name) (named (table texel_text texel_formats) name)
