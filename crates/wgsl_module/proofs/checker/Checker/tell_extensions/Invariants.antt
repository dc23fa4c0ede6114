use Rattle.std.proofs.Common.{drop}
use Rattle.wgsl_module.specs.Directives.{Directs}
use Rattle.wgsl_module.specs.States.{State, state}
use Rattle.wgsl_module.proofs.checker.Checker.tell_extensions.Given as goal

-- what comes of the events that are left comes of all
abbrev pub invariant-loop-event : goal.invariant-loop-event
invariant-loop-event l = (r : State) → Directs l.declaration.kind (drop l.event-index l.declaration.events.now) (state l.self) r
    → Directs l.declaration.kind l.declaration.events.now (state l.fn.self) r
