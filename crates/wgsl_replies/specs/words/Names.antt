-- What a word names or counts.
use Rattle.std.specs.Prelude.{ℕ, List, Option, Some, None, codes, if◌then◌else◌, option_map, bytes_eq, ◌^◌, ◌&&◌, nat_lt}
use Rattle.wgsl_replies.specs.words.Prelude.{named, table, texture_name_text, texture_names, AccessMode, AddressSpace, all_ascii_digits, digits_value}
use Rattle.wgsl_syntax.specs.Address.{access_modes, access_text, space_text, spaces}
use Rattle.wgsl_syntax.specs.Attribute.{flag_text, flags}
use Rattle.wgsl_syntax.specs.Operator.{binary_operators, binary_text, unary_operators, unary_text}
use Rattle.wgsl_syntax.specs.Scalar.{scalar_text, scalars}
use Rattle.wgsl_syntax.specs.Texel.{texel_formats, texel_text}
use Rattle.wgsl_syntax.specs.Texture.{sampled_text, sampled_types, sampler_text, samplers}
use Rattle.wgsl_syntax.specs.declared.attribute.AccelerationStructureFlags.{AccelerationStructureFlags}
use Rattle.wgsl_syntax.specs.declared.operator.BinaryOperator.{BinaryOperator}
use Rattle.wgsl_syntax.specs.declared.operator.UnaryOperator.{UnaryOperator}
use Rattle.wgsl_syntax.specs.declared.scalar.Scalar.{Scalar}
use Rattle.wgsl_syntax.specs.declared.texel.TexelFormat.{TexelFormat}
use Rattle.wgsl_syntax.specs.declared.texture.SampledType.{SampledType}
use Rattle.wgsl_syntax.specs.declared.texture.SamplerType.{SamplerType}
use Rattle.wgsl_syntax.specs.declared.texture_name.TextureName.{TextureName}
use Rattle.wgsl_replies.specs.words.Reader.{has_bytes}

unfoldable pub scalar_named : List ℕ → Option Scalar
scalar_named word = named (table scalar_text scalars) word

-- also `handle`
unfoldable pub space_named : List ℕ → Option AddressSpace
space_named word = named (table space_text spaces) word

unfoldable pub access_named : List ℕ → Option AccessMode
access_named word = named (table access_text access_modes) word

unfoldable pub sampler_named : List ℕ → Option SamplerType
sampler_named word = named (table sampler_text samplers) word

unfoldable pub sampled_named : List ℕ → Option SampledType
sampled_named word = named (table sampled_text sampled_types) word

unfoldable pub texture_named : List ℕ → Option TextureName
texture_named word = named (table texture_name_text texture_names) word

unfoldable pub texel_named : List ℕ → Option TexelFormat
texel_named word = named (table texel_text texel_formats) word

unfoldable pub some_flag_named : List ℕ → Option AccelerationStructureFlags
some_flag_named word = named (table flag_text flags) word

-- `-` for none
unfoldable pub flag_named : List ℕ → Option (Option AccelerationStructureFlags)
flag_named word = if bytes_eq word (codes "-") then Some None else option_map Some (some_flag_named word)

unfoldable pub unary_named : List ℕ → Option UnaryOperator
unary_named word = named (table unary_text unary_operators) word

unfoldable pub binary_named : List ℕ → Option BinaryOperator
binary_named word = named (table binary_text binary_operators) word

-- decimal digits, with leading zeros or without, of a number below the limit
abbrev pub number_below : ℕ → List ℕ → Option ℕ
number_below limit word = if has_bytes word && all_ascii_digits word && nat_lt (digits_value 10 word) limit then Some (digits_value 10 word) else None

-- a number of components, columns or rows
unfoldable pub small : List ℕ → Option ℕ
small word = number_below (2 ^ 8) word

-- a number of bytes
unfoldable pub medium : List ℕ → Option ℕ
medium word = number_below (2 ^ 32) word

-- a number of elements or members
unfoldable pub long : List ℕ → Option ℕ
long word = number_below (2 ^ 64) word

-- a number of elements, or `*` if the array is runtime-sized
unfoldable pub count : List ℕ → Option (Option ℕ)
count word = if bytes_eq word (codes "*") then Some None else option_map Some (long word)

-- an attribute of a member, or `-` if it has none
unfoldable pub attribute : List ℕ → Option (Option ℕ)
attribute word = if bytes_eq word (codes "-") then Some None else option_map Some (medium word)
