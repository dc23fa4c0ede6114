use Rattle.std.proofs.Common.{◌∷◌, [], None, option_map, sym, ap, subst, ◌∙◌}
use Rattle.wgsl_typing.proofs.Common.{view, a_binary, resolved_view, later, Stage, HasResult, loaded}
use Rattle.wgsl_typing.proofs.Outcomes.{faulty_overloaded, overloaded}
use Rattle.wgsl_typing.proofs.expressions.Expressions.binary.Goals as goal

pub returns-in-None-clause-answer : goal.returns-in-None-clause-answer
returns-in-None-clause-answer c = faulty_overloaded (a_binary c.args.operator) None (loaded c.args.left.1.now ∷ loaded c.args.right.1.now ∷ []) (later c.args.left.1.now.stage c.args.right.1.now.stage) c.in_ok-found.found c.in-Some.call
    (sym (ap (option_map resolved_view) c.in-Some.is) ∙ c.in_ok-call.ensures.answer) c.in_ok-found.ensures

pub returns-in-Some-2-clause-answer : goal.returns-in-Some-2-clause-answer
returns-in-Some-2-clause-answer c =
    let P : Stage → Type 0 = λ s. HasResult s (option_map view c.in-Some.call.result) c.of_call.result in
    overloaded (a_binary c.args.operator) None (loaded c.args.left.1.now ∷ loaded c.args.right.1.now ∷ []) (later c.args.left.1.now.stage c.args.right.1.now.stage) c.in_ok-found.found c.in-Some.call _
    (sym (ap (option_map resolved_view) c.in-Some.is) ∙ c.in_ok-call.ensures.answer) c.in_ok-found.ensures (subst P c.later-stage.ensures c.of_call.ensures)
