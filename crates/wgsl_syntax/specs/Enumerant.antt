-- Predeclared enumerants, each with the name of the value inside (WGSL, "Predeclared Enumerants").
use Rattle.std.specs.Prelude.{ℕ, List, ◌++◌, map}
use Rattle.wgsl_syntax.specs.Address.{access_modes, access_text, space_text, spaces}
use Rattle.wgsl_syntax.specs.Attribute.{flag_text, flags}
use Rattle.wgsl_syntax.specs.Texel.{texel_formats, texel_text}
use Rattle.wgsl_syntax.specs.declared.enumerant.Enumerant.{Enumerant}
use Rattle.wgsl_syntax.specs.declared.enumerant.Enumerant.TheVariants.{AccessMode, AddressSpace, TexelFormat, AccelerationStructureFlags}

abbrev pub enumerants : List Enumerant
enumerants = map AccessMode access_modes ++ map AddressSpace spaces ++ map TexelFormat texel_formats ++ map AccelerationStructureFlags flags

abbrev pub enumerant_text : Enumerant → List ℕ
enumerant_text (AccessMode access) = access_text access
enumerant_text (AddressSpace space) = space_text space
enumerant_text (TexelFormat format) = texel_text format
enumerant_text (AccelerationStructureFlags flag) = flag_text flag
