use Rattle.std.proofs.Common.{◌≡◌, drop}
use Rattle.wgsl_module.specs.Control.{behind_all, state}
use Rattle.wgsl_module.proofs.control.Control.steps.Given as goal

-- what comes of all events is what comes of those that are left
abbrev pub invariant-loop-event : goal.invariant-loop-event
invariant-loop-event l = behind_all l.tokens (drop l.event-index l.events) (state l.self) ≡ behind_all l.tokens l.events (state l.fn.self)
