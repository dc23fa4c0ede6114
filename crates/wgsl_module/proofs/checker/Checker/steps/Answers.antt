use Rattle.std.proofs.Common.{◌<◌, ◌∙◌, length, rules}
use Rattle.wgsl_module.specs.States.{state}
use Rattle.wgsl_module.proofs.Runs.{next_event}
use Rattle.wgsl_module.proofs.checker.Checker.steps.Goals as goal

pub loop-event-preserved : goal.loop-event-preserved
loop-event-preserved c =
    let inside : c.loop-event.event-index < length c.args.events.now = search rules in (
      λ r rest. c.loop-event.invariant.0 r (next_event c.args.tokens.now c.args.events.now c.loop-event.event-index _ c.kind_before.result (state c.loop-event.self) (state c.step.new.self) r
          inside c.kind_before.ensures c.in_ok-step.ensures.event rest),
      c.in_ok-step.ensures.source ∙ c.loop-event.invariant.1,
    )
