-- Names of these specifications and of other crates that many proofs cite, passed on from one place. It declares nothing.
pub use Rattle.std.proofs.lemmas.Fmt.{decimal_by_steps, decimal_digit, decimal_nonempty, first_decimal}
pub use Rattle.std.proofs.lemmas.Grind.{common_steps}
pub use Rattle.std.specs.List.{list_all, prefix_len}
pub use Rattle.wgsl_constants.specs.Literals.{appended, behind, ends_with, integer_of, is_wrong, number, then}
pub use Rattle.wgsl_constants.specs.Values.{map_value}
pub use Rattle.wgsl_constants.specs.declared.integer.Integer.TheVariants.{Abstract}
pub use Rattle.wgsl_core.specs.View.{view}
pub use Rattle.wgsl_reader.specs.Bytes.{byte_at, is_digit, is_in_ascii_name}
pub use Rattle.wgsl_reader.specs.Lists.{begun, found_from, listed, of_kind, opened_behind, Search, with_lists}
pub use Rattle.wgsl_reader.specs.Reading.{all_read, kind_of, noted, Outcome, ReadAt, rule_read, token_read}
pub use Rattle.wgsl_reader.specs.Tokens.{in_front, is_blank, mark_len, piece_of, Tokens, tokens_from, tokens_of, with_piece}
pub use Rattle.wgsl_reader.specs.Words.{word_of}
unfoldable pub use Rattle.wgsl_reader.specs.Words.{words}
pub use Rattle.wgsl_reader.specs.declared.kind.Kind.{Kind}
pub use Rattle.wgsl_reader.specs.declared.read.Event.{Event}
pub use Rattle.wgsl_reader.specs.declared.token.Token.{Token}
pub use Rattle.wgsl_rules.specs.types.Around.{around}
pub use Rattle.wgsl_spelling.specs.Chains.{Chain, leaf_type, push, type_of, with_name, with_plain, with_type, with_word, wrapped}
pub use Rattle.wgsl_spelling.specs.Names.{access_named, format_named, or_else, space_named}
pub use Rattle.wgsl_spelling.specs.Predeclared.{predeclared}
pub use Rattle.wgsl_spelling.specs.Spelled.{is_bitcast, no_token, nothing, Spells, SpellsBy, State, state, token_before, TokensSpell, type_of_outcome, with_binary, with_item, with_listed, with_unary}
pub use Rattle.wgsl_spelling.specs.Templates.{is_open, last_list, listed_by, listed_in}
pub use Rattle.wgsl_spelling.specs.Words.{is_boundary, word}
pub use Rattle.wgsl_spelling.specs.Written.{IsSide, IsWritable, layers}
pub use Rattle.wgsl_spelling.specs.declared.chain.Leaf.{Leaf}
pub use Rattle.wgsl_spelling.specs.declared.item.Item.{Item}
pub use Rattle.wgsl_spelling.specs.declared.list.Parameters.{Parameters}
pub use Rattle.wgsl_spelling.specs.declared.list.Parameters.TheVariants.{One, Three, Two}
pub use Rattle.wgsl_syntax.specs.Address.{access_modes, access_text, IsSpace, space_text, space_text_by, spaces}
pub use Rattle.wgsl_syntax.specs.Attribute.{flag_text, flags}
pub use Rattle.wgsl_syntax.specs.Scalar.{scalar_text, scalars}
pub use Rattle.wgsl_syntax.specs.Texel.{IsTexel, texel_formats, texel_text, texel_text_by}
pub use Rattle.wgsl_syntax.specs.Texture.{sampled_text, sampled_types, sampler_text, texture_name, texture_text_by}
pub use Rattle.wgsl_syntax.specs.TextureName.{name_of, parameters_of, texture_name_text, texture_with}
pub use Rattle.wgsl_syntax.specs.declared.address.AccessMode.{AccessMode}
pub use Rattle.wgsl_syntax.specs.declared.address.AddressSpace.{AddressSpace}
pub use Rattle.wgsl_syntax.specs.declared.around.Around.{Around}
pub use Rattle.wgsl_syntax.specs.declared.around.Around.TheVariants.{Array, Atomic, BindingArray, Mat, Ptr, Ref, Vec}
pub use Rattle.wgsl_syntax.specs.declared.attribute.AccelerationStructureFlags.{AccelerationStructureFlags}
pub use Rattle.wgsl_syntax.specs.declared.rules.RuleSet.{RuleSet}
pub use Rattle.wgsl_syntax.specs.declared.rules.RuleSet.TheVariants.{Ported, Standard}
pub use Rattle.wgsl_syntax.specs.declared.scalar.Scalar.{Scalar}
pub use Rattle.wgsl_syntax.specs.declared.texel.TexelFormat.{TexelFormat}
pub use Rattle.wgsl_syntax.specs.declared.texture.SampledType.{SampledType}
pub use Rattle.wgsl_syntax.specs.declared.texture.TextureType.{TextureType}
pub use Rattle.wgsl_syntax.specs.declared.texture_name.TextureParameters.{TextureParameters}
