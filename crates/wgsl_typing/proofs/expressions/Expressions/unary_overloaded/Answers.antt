use Rattle.std.proofs.Common.{◌∷◌, [], None, option_map, sym, ap, ◌∙◌}
use Rattle.wgsl_typing.proofs.Common.{a_unary, resolved_view, loaded}
use Rattle.wgsl_typing.proofs.Outcomes.{overloaded}
use Rattle.wgsl_typing.proofs.expressions.Expressions.unary_overloaded.Goals as goal

pub returns-clause-answer : goal.returns-clause-answer
returns-clause-answer c = overloaded (a_unary c.args.operator) None (loaded c.args.x.now ∷ []) c.args.x.now.stage c.in_ok-found.found c.in-Some.call _
    (sym (ap (option_map resolved_view) c.in-Some.is) ∙ c.in_ok-call.ensures.answer) c.in_ok-found.ensures c.of_call.ensures
