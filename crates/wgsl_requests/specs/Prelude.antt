-- Names of other crates that many definitions cite, passed on from one place. It declares nothing.
pub use Rattle.wgsl_core.specs.Answer.{IsAnswered, refusal}
pub use Rattle.wgsl_core.specs.Instances.{parameter_view}
pub use Rattle.wgsl_core.specs.View.{member_view, struct_view, view}
pub use Rattle.wgsl_core.specs.declared.error.Error.{Error}
pub use Rattle.wgsl_core.specs.declared.error.Fail.{Fail}
pub use Rattle.wgsl_core.specs.internal.Resolution.{element_view}
pub use Rattle.wgsl_standard.specs.forms.Lists.{constructed, Fits, list_fits, Taker}
pub use Rattle.wgsl_standard.specs.forms.Refusals.{Refusal as FormRefusal, refusal_text}
pub use Rattle.wgsl_standard.specs.forms.Views.{answer_view, form_type_view, form_view, taker_view, unbuilt_view}
pub use Rattle.wgsl_rules.specs.errors.Refusals.{binary, message, Refusal}
pub use Rattle.wgsl_rules.specs.layout.Placement.{MemberLayout}
pub use Rattle.wgsl_rules.specs.operators.Answers.{IsOperatorAnswer, IsUnaryAnswer}
pub use Rattle.wgsl_rules.specs.standard.Choice.{Operand, types_of, value_of}
pub use Rattle.wgsl_rules.specs.types.Signatures.{listed, of_literal, of_type, Parameter, parameter_text, Signature, template_text}
pub use Rattle.wgsl_rules.specs.types.Spelling.{spelling, spelling_by, wgsl_spelling}
pub use Rattle.wgsl_rules.specs.types.Types.{member, Members, scalar, WgslType}
pub use Rattle.wgsl_standard.specs.Callees.{a_constructor, a_unary, callee_view, overloads_listed, unknown_name, WgslCallee}
pub use Rattle.wgsl_standard.specs.Operands.{given_type}
pub use Rattle.wgsl_standard.specs.Resolved.{IsCallResolution, resolved_view}
pub use Rattle.wgsl_standard.specs.Results.{result_view}
pub use Rattle.wgsl_standard.specs.Texts.{callee_text, line_of, name_of, note_listed, note_text, overload_texts, texts_listed}
pub use Rattle.wgsl_syntax.specs.declared.operator.BinaryOperator.{BinaryOperator}
pub use Rattle.wgsl_syntax.specs.declared.operator.UnaryOperator.{UnaryOperator}
pub use Rattle.wgsl_syntax.specs.declared.rules.RuleSet.{RuleSet}
