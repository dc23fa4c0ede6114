use Rattle.std.proofs.Common.{IfOk, subst}
use Rattle.wgsl_typing.proofs.Common.{view, typed_array, Stage, IsFound, stage_of, types_of}
use Rattle.wgsl_typing.proofs.Outcomes.{made_in}
use Rattle.wgsl_typing.proofs.expressions.Expressions.construct_array.Goals as goal

pub returns-clause-answer : goal.returns-clause-answer
returns-clause-answer c =
    let P : Stage → Type 0 = λ s. IfOk c.made.result (IsFound s c.in_ok-found.found) in
    made_in (stage_of c.args.call.now.arguments.now) (typed_array (view c.args.of.now) c.args.count (types_of c.args.call.now.arguments.now))
    c.in_ok-found.found c.made.result c.in_ok-found.ensures (subst P c.stage_of-stage.ensures c.made.ensures.answer)
