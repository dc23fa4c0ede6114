use Rattle.std.proofs.Common.{option_map, sym, ap, ◌∙◌}
use Rattle.wgsl_typing.proofs.Common.{view, type_behind, value_of_variable}
use Rattle.wgsl_standard.specs.forms.Variable.{initialized_variable}
use Rattle.wgsl_typing.specs.declared.stage.Stage.TheVariants.{Runtime}
use Rattle.wgsl_typing.proofs.Outcomes.{held_for}
use Rattle.wgsl_typing.proofs.expressions.Expressions.initialized.Goals as goal

pub returns-in-Some-2-clause-answer : goal.returns-in-Some-2-clause-answer
returns-in-Some-2-clause-answer c =
    held_for (λ v. initialized_variable c.args.space c.args.access (value_of_variable c.args.space v) (type_behind c.args.declared.now)) Runtime c.holding.result
    (sym (ap (option_map (λ v. v.now)) c.in-Some.is) ∙ c.in_ok-value.ensures.answer)
    (c.initialized_variable-form.ensures ∙ (ap (λ x. initialized_variable c.args.space c.args.access x (option_map (λ t. view t.now) c.ty.result)) c.value_in-operand.ensures
    ∙ ap (λ t. initialized_variable c.args.space c.args.access (value_of_variable c.args.space c.in-Some.value.now) t) c.ty.ensures))
    (sym (ap (option_map view) c.in-Some-2.is) ∙ c.in_ok-reference.ensures.answer)
    c.holding.ensures.answer
