use Rattle.std.proofs.Common.{subst, option_map}
use Rattle.wgsl_standard.proofs.Common.{IsChosen, callee_view, operands_view, choice_view}
use Rattle.wgsl_standard.proofs.Resolutions.{resolves, resolves_to_none}
use Rattle.wgsl_standard.proofs.resolved.resolve_by.Goals as goal

pub returns-in_ok-call-in-Some-clause-answer : goal.returns-in_ok-call-in-Some-clause-answer
returns-in_ok-call-in-Some-clause-answer c =
    let chosen = subst (λ r. IsChosen c.listed_overloads-overloads.result.now (operands_view c.args.operands.now) (option_map choice_view r)) c.in-Some.is c.resolve.ensures in
    resolves (callee_view c.args.callee) c.args.has_template c.listed_overloads-overloads.result.now (operands_view c.args.operands.now)
    (c.in-Some.choice.index, c.in-Some.choice.substitution) _ c.lines_before-line.result _ c.listed_overloads-overloads.ensures.list chosen c.lines_before-line.ensures.lines c.in_ok-call-in-Some.ensures

pub returns-in-None-clause-answer : goal.returns-in-None-clause-answer
returns-in-None-clause-answer c =
    let none = subst (λ r. IsChosen c.listed_overloads-overloads.result.now (operands_view c.args.operands.now) (option_map choice_view r)) c.in-None.is c.resolve.ensures in
    resolves_to_none (callee_view c.args.callee) c.args.has_template _ (operands_view c.args.operands.now) c.listed_overloads-overloads.ensures.list none
