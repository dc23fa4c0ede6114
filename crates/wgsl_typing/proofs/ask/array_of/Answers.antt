use Rattle.std.proofs.Common.{sym, ap, ◌∙◌}
use Rattle.wgsl_typing.proofs.Common.{view, typed_array, answer_view, unbuilt_view, IsType}
use Rattle.wgsl_typing.proofs.Operands.{answered_err, answered_ok, by_parts}
use Rattle.wgsl_typing.proofs.ask.array_of.Goals as goal

-- src/ask.rt:80:1
pub returns-in-Ok : goal.returns-in-Ok
returns-in-Ok c = answered_ok _ IsType c.in_ok-build-in-Ok.field-0 (by_parts c.args.arguments.now (typed_array (view c.args.of.now) c.args.count) c.in_ok-operands.ensures c.deref.ensures.value
    (sym (ap (answer_view unbuilt_view) c.in-Ok.is) ∙ c.construct_array_of.ensures)) c.in_ok-build-in-Ok.ensures

-- src/ask.rt:73:1
pub returns : goal.returns
returns c = answered_err IsType c.in_ok-format-in-Err.field-0 (by_parts c.args.arguments.now (typed_array (view c.args.of.now) c.args.count) c.in_ok-operands.ensures c.deref.ensures.value
    (sym (ap (answer_view unbuilt_view) c.in-Err.is) ∙ c.construct_array_of.ensures))
