-- Names of these specifications and of other crates that many proofs cite, passed on from one place. It declares nothing.
pub use Rattle.std.proofs.lemmas.Bool.{and_parts, eqb-false}
pub use Rattle.std.proofs.lemmas.Grind.{common_steps}
pub use Rattle.std.proofs.lemmas.List.{drop-map, drop-take, drop_all, length-map, take-map}
pub use Rattle.wgsl_reader.specs.Expected.{MayStand}
pub use Rattle.wgsl_reader.specs.Frames.{below}
pub use Rattle.wgsl_reader.specs.Grammar.{Line, lines_of, production, Rows, rows_of, rules}
unfoldable pub use Rattle.wgsl_reader.specs.Grammar.{tables}
pub use Rattle.wgsl_reader.specs.Lists.{begun, ended, found_from, is, joined, joined_by, of_kind, passed, Search, step, step_at, with_lists}
pub use Rattle.wgsl_reader.specs.Modules.{declaration_len, ReadsFrom, ReadsModule, rest_len}
pub use Rattle.wgsl_reader.specs.Reading.{kind_of, next_kind, Outcome, outcome_of, ReadAt, with_events}
pub use Rattle.wgsl_reader.specs.Seen.{search_of}
pub use Rattle.wgsl_reader.specs.Tokens.{block_len, in_front, is_pair, mark_len, more, piece_of, Tokens, tokens_from, tokens_of, with_piece}
pub use Rattle.wgsl_reader.specs.contracts.rule.Rule.{the_type}
pub use Rattle.wgsl_reader.specs.declared.grammar.Symbol.{Symbol}
pub use Rattle.wgsl_reader.specs.declared.kind.Kind.{Kind}
pub use Rattle.wgsl_reader.specs.declared.lists.Opened.{Opened}
pub use Rattle.wgsl_reader.specs.declared.mark.Mark.{Mark}
pub use Rattle.wgsl_reader.specs.declared.module.Misread.{Misread}
pub use Rattle.wgsl_reader.specs.declared.read.Event.{Event}
pub use Rattle.wgsl_reader.specs.declared.rule.Rule.{Rule}
pub use Rattle.wgsl_reader.specs.declared.token.Token.{Token}
pub use denote.Enum.Bare.{same_false, same_true, sameb}
pub use denote.Enum.Declared.{rowss, tag_of}
