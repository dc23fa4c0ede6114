-- Names of other crates that many definitions cite, passed on from one place. It declares nothing.
pub use Rattle.std.specs.List.{list_all, list_any}
pub use Rattle.wgsl_core.specs.View.{Member, members_of}
pub use Rattle.wgsl_requests.specs.declared.expressions.statement.Question.{Question}
pub use Rattle.wgsl_standard.specs.forms.Expressions.{Expression, is_const_expression, shown_type}
pub use Rattle.wgsl_standard.specs.forms.Lists.{condition, function, returned}
pub use Rattle.wgsl_standard.specs.forms.Memory.{behind, formed_from, is_memory}
pub use Rattle.wgsl_standard.specs.declared.forms.form.Referent.TheVariants.{Component, Swizzle, Whole}
pub use Rattle.wgsl_reader.specs.Lists.{listed}
pub use Rattle.wgsl_reader.specs.Tokens.{Tokens, tokens_of}
pub use Rattle.wgsl_reader.specs.declared.kind.Kind.{Kind}
pub use Rattle.wgsl_reader.specs.declared.kind.Kind.TheVariants.{End, False, True}
pub use Rattle.wgsl_reader.specs.declared.mark.Mark.{Mark}
pub use Rattle.wgsl_reader.specs.declared.read.Event.{Event}
pub use Rattle.wgsl_reader.specs.declared.token.Token.{Token}
pub use Rattle.wgsl_requests.specs.Answers.{a_fit, a_form_type, a_type_of, Answers, WgslAnswer}
pub use Rattle.wgsl_requests.specs.Requests.{type_asked, common, explanation_of, fit_of, form_of, layout, offsets, overloads_of, rank, resolution_of, size}
pub use Rattle.wgsl_requests.specs.Prelude.{a_constructor, a_unary, Fail, member_view, Members, of_type, Operand, overloads_listed, Parameter, parameter_view}
pub use Rattle.wgsl_requests.specs.Prelude.{scalar, struct_view, view, wgsl_spelling, WgslCallee, WgslType}
pub use Rattle.wgsl_requests.specs.Requests.{type_of, WgslRequest}
pub use Rattle.wgsl_requests.specs.Texts.{answer_text, resolution_text, text_kind, Writes}
pub use Rattle.wgsl_requests.specs.Views.{answer_view, call_view, form_view, request_view, written_view}
pub use Rattle.wgsl_rules.specs.types.Types.{array, mat, struct, vec}
pub use Rattle.wgsl_spelling.specs.Words.{word}
pub use Rattle.wgsl_standard.specs.Callees.{a_binary, a_function, can_be_const_expression}
pub use Rattle.wgsl_syntax.specs.Names.{named, table}
pub use Rattle.wgsl_syntax.specs.declared.operator.AssignmentOperator.{AssignmentOperator}
pub use Rattle.wgsl_syntax.specs.declared.scalar.Scalar.TheVariants.{AbstractFloat, AbstractInt, Bool, F16, F32, I32, U32}
