use Rattle.std.proofs.Common.{sym, ap, ◌∙◌}
use Rattle.wgsl_typing.proofs.Common.{view, constructed, answer_view}
use Rattle.wgsl_typing.proofs.Operands.{by_parts, none_told, one_told}
use Rattle.wgsl_typing.proofs.ask.unfit.Goals as goal

pub returns-in-Ok : goal.returns-in-Ok
returns-in-Ok c = none_told _ (by_parts c.args.arguments.now (constructed (view c.args.whole.now)) c.in_ok-operands.ensures c.deref.ensures.value
    (sym (ap (answer_view (λ t. view t.now)) c.in-Ok.is) ∙ c.construct_struct.ensures))

pub returns : goal.returns
returns c = one_told _ (by_parts c.args.arguments.now (constructed (view c.args.whole.now)) c.in_ok-operands.ensures c.deref.ensures.value
    (sym (ap (answer_view (λ t. view t.now)) c.in-Err.is) ∙ c.construct_struct.ensures))
