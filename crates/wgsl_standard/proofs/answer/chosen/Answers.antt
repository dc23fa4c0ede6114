use Rattle.std.proofs.Common.{subst, refl, option_map}
use Rattle.wgsl_standard.proofs.Common.{IsChosen, operands_view, choice_view}
use Rattle.wgsl_standard.proofs.StandardAnswers.{answer_at, answer_none}
use Rattle.wgsl_standard.proofs.answer.chosen.Goals as goal

pub returns-in-Some : goal.returns-in-Some
returns-in-Some c =
    let chosen = subst (λ r. IsChosen c.args.overloads.now (operands_view c.args.operands.now) (option_map choice_view r)) c.in-Some.is c.resolve.ensures in
    answer_at c.args.overloads.now (operands_view c.args.operands.now) (c.in-Some.choice.index, c.in-Some.choice.substitution) _ _ chosen refl

pub returns-in-None : goal.returns-in-None
returns-in-None c =
    let none = subst (λ r. IsChosen c.args.overloads.now (operands_view c.args.operands.now) (option_map choice_view r)) c.in-None.is c.resolve.ensures in
    answer_none c.args.overloads.now (operands_view c.args.operands.now) none
