use Rattle.std.proofs.Common.{◌<◌, ◌∙◌, length, rules}
use Rattle.wgsl_module.specs.States.{state}
use Rattle.wgsl_module.proofs.Runs.{next_parameter}
use Rattle.wgsl_module.proofs.checker.Checker.declare_parameters.Goals as goal

pub loop-event-preserved : goal.loop-event-preserved
loop-event-preserved c =
    let inside : c.loop-event.event-index < length c.args.events.now = search rules in (
      λ r rest. c.loop-event.invariant.0 r (next_parameter c.args.events.now c.loop-event.event-index _ (state c.loop-event.self) (state c.declare_parameter.new.self) r
          inside c.in_ok-declare_parameter.ensures.parameter rest),
      c.in_ok-declare_parameter.ensures.source ∙ c.loop-event.invariant.1,
    )
