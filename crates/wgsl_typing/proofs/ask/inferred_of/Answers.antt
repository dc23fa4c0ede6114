use Rattle.std.proofs.Common.{Ok, sym, ap, ◌∙◌}
use Rattle.wgsl_typing.specs.Counts.{unless_counted}
use Rattle.wgsl_typing.proofs.Common.{answer_view, unbuilt_view, IsType}
use Rattle.wgsl_typing.proofs.Operands.{answered_err, inferred_by_parts}
use Rattle.wgsl_typing.proofs.Outcomes.{inferred_unless}
use Rattle.wgsl_typing.proofs.ask.inferred_of.Goals as goal

pub returns-in-Ok : goal.returns-in-Ok
returns-in-Ok c =
    let answer : _ = answer_view unbuilt_view c.construct_array.result in
    inferred_unless c.args.arguments.now answer c.unless_counted.result
    (inferred_by_parts c.args.arguments.now answer c.in_ok-operands.ensures c.deref.ensures.value c.construct_array.ensures)
    (ap Ok c.in_ok-build-in-Ok.ensures ∙ sym (ap (answer_view unbuilt_view) c.in-Ok.is)) c.unless_counted.ensures

pub returns : goal.returns
returns c =
    let answer : _ = answer_view unbuilt_view c.construct_array.result in (
      answer,
      inferred_by_parts c.args.arguments.now answer c.in_ok-operands.ensures c.deref.ensures.value c.construct_array.ensures,
      answered_err IsType c.in_ok-format-in-Err.field-0 (ap unless_counted (sym (ap (answer_view unbuilt_view) c.in-Err.is))),
    )
