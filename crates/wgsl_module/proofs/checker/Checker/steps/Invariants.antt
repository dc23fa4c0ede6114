use Rattle.std.proofs.Common.{◌≡◌, drop}
use Rattle.wgsl_module.specs.Noted.{Comes}
use Rattle.wgsl_module.specs.States.{State, source, state}
use Rattle.wgsl_module.proofs.checker.Checker.steps.Given as goal

-- what comes of the events that are left comes of all
abbrev pub invariant-loop-event : goal.invariant-loop-event
invariant-loop-event l =
    ((r : State) → Comes l.tokens (drop l.event-index l.events) (state l.self) r → Comes l.tokens l.events (state l.fn.self) r) ×
    (source (state l.self) ≡ source (state l.fn.self))
