use Rattle.wgsl_requests.proofs.Common.{◌≡◌, drop, asks_call}
use Rattle.wgsl_requests.proofs.expressions.step.asks_call.Given as goal

-- those that are left ask as all do
abbrev pub invariant-loop-event : goal.invariant-loop-event
invariant-loop-event l = asks_call l.fn.events ≡ asks_call (drop l.event-index l.fn.events)
