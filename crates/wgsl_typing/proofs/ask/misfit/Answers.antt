use Rattle.std.proofs.Common.{sym, ap, ◌∙◌, map}
use Rattle.wgsl_typing.proofs.Common.{view, function, list_fits, answer_view}
use Rattle.wgsl_typing.proofs.Operands.{by_parts, none_told, one_told}
use Rattle.wgsl_typing.proofs.ask.misfit.Goals as goal

-- src/ask.rt:64:1
pub returns-in-Ok : goal.returns-in-Ok
returns-in-Ok c = none_told _ (by_parts c.args.arguments.now (list_fits (function c.args.name.now) (map view c.args.types.now)) c.in_ok-operands.ensures c.deref.ensures.value
    (sym (ap (answer_view (λ u. tt)) c.in-Ok.is) ∙ c.fit.ensures))

-- src/ask.rt:58:1
pub returns : goal.returns
returns c = one_told _ (by_parts c.args.arguments.now (list_fits (function c.args.name.now) (map view c.args.types.now)) c.in_ok-operands.ensures c.deref.ensures.value
    (sym (ap (answer_view (λ u. tt)) c.in-Err.is) ∙ c.fit.ensures))
