use Rattle.std.proofs.Common.{◌≡◌, drop}
use Rattle.wgsl_module.specs.Runs.{AreParameters}
use Rattle.wgsl_module.specs.States.{State, source, state}
use Rattle.wgsl_module.proofs.checker.Checker.declare_parameters.Given as goal

-- the parameters that are left, behind those that are declared, are all
abbrev pub invariant-loop-event : goal.invariant-loop-event
invariant-loop-event l =
    ((r : State) → AreParameters (drop l.event-index l.events) (state l.self) r → AreParameters l.events (state l.fn.self) r) ×
    (source (state l.self) ≡ source (state l.fn.self))
