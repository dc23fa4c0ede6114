-- Names of these specifications and of other crates that many proofs cite, passed on from one place. It declares nothing.
pub use Rattle.std.proofs.Common.{drop, slice_index_or as get_or, reverse, slice_get, slice_range, slice_set, ◌&&◌, ◌||◌, ◌≢◌, ◌≤◌}
pub use Rattle.std.proofs.lemmas.Grind.{common_steps}
pub use Rattle.std.proofs.lemmas.List.{nil_from_length, reverse-append, take_at}
pub use Rattle.wgsl_requests.specs.expressions.Outcomes.{has_layer, is_deeper, most_layers, asked, Head, is_constant, IsCalled, IsElement, IsMember, IsOutcome}
pub use Rattle.wgsl_requests.specs.expressions.Outcomes.{member_in, operand, operand_by, Outcome, outcome_by, part_in, Parts, result_of, result_of_call, type_of_answer}
pub use Rattle.wgsl_requests.specs.expressions.RequestTokens.{as_operand, asked_behind, asked_kind, next_kind, operand_token}
pub use Rattle.wgsl_requests.specs.expressions.Source.{Declared, find, Scope}
pub use Rattle.wgsl_requests.specs.expressions.Steps.{asks_call, Becomes, EndsIf, Given, literal_of, Value, with_given}
pub use Rattle.wgsl_requests.specs.expressions.Views.{declared_view, Finds, head_view, items_view, scope_view, source_view, typed_view}
pub use Rattle.wgsl_requests.specs.declared.expressions.misread.Misread.{Misread}
pub use Rattle.wgsl_standard.specs.forms.Expressions.{Expression}
pub use Rattle.wgsl_reader.specs.declared.kind.Kind.{Kind}
pub use Rattle.wgsl_reader.specs.declared.kind.Kind.TheVariants.{End}
pub use Rattle.wgsl_reader.specs.declared.read.Event.{Event}
pub use Rattle.wgsl_reader.specs.declared.rule.Rule.TheVariants.{Expression as an_expression, Request}
pub use Rattle.wgsl_reader.specs.declared.token.Token.{Token}
pub use Rattle.wgsl_requests.proofs.Shared.{ap, arith, Bool, Err, Fail, false, length, List, map, member_view, None, Ok, Option, option_map, refl, Result}
pub use Rattle.wgsl_requests.proofs.Shared.{rules, Some, subst, suc, sym, take, true, view, WgslRequest, WgslType, written_view, zero, ℕ, [], ◌++◌, ◌+◌, ◌-◌}
pub use Rattle.wgsl_requests.proofs.Shared.{◌<◌, ◌∙◌, ◌∷◌, ◌≡◌}
pub use Rattle.wgsl_requests.proofs.OneAnswer.{behind, EachAnswered, HasOne, known, one_answer, one_of_line, one_reply_of}
pub use Rattle.wgsl_requests.specs.Requests.{form_of, overloads_of}
pub use Rattle.wgsl_spelling.specs.Words.{word}
