use Rattle.std.proofs.Common.{[], ◌∷◌, None, subst, option_map}
use Rattle.wgsl_standard.proofs.CommonForms.{IsChosen, binary_overloads, operand_view, answer_none}
use Rattle.wgsl_standard.specs.internal.Choices.{choice_view}
use Rattle.wgsl_standard.proofs.Values.{value_answer}
use Rattle.wgsl_standard.proofs.forms.assign.result_by.Goals as goal

pub returns-in-Some : goal.returns-in-Some
returns-in-Some c =
    let os = c.binary_overloads-overloads.result.now in
    let xs = operand_view c.args.lhs ∷ operand_view c.args.rhs ∷ [] in
    let chosen = subst (λ r. IsChosen os xs (option_map choice_view r)) c.in-Some.is c.resolve.ensures in
    value_answer c.args.operator os xs (c.in-Some.choice.index, c.in-Some.choice.substitution) _ _ c.binary_overloads-overloads.ensures chosen c.result_value.ensures

pub returns-in-None : goal.returns-in-None
returns-in-None c =
    let os = c.binary_overloads-overloads.result.now in
    let xs = operand_view c.args.lhs ∷ operand_view c.args.rhs ∷ [] in
    let none = subst (λ r. IsChosen os xs (option_map choice_view r)) c.in-None.is c.resolve.ensures in
    answer_none (binary_overloads c.args.operator) xs (subst (λ os. IsChosen os xs None) c.binary_overloads-overloads.ensures none)
