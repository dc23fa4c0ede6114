use Rattle.std.proofs.Common.{◌≡◌, drop}
use Rattle.wgsl_spelling.specs.Seen.{state_of}
use Rattle.wgsl_spelling.specs.Spelled.{behind, nothing}
use Rattle.wgsl_spelling.proofs.spelled.read_events.Given as goal

-- the events that are left, behind what is read so far, come to what all events do
abbrev pub invariant-loop-event : goal.invariant-loop-event
invariant-loop-event l =
    behind l.fn.text l.fn.tokens nothing l.fn.events ≡ behind l.fn.text l.fn.tokens (state_of l.reading) (drop l.event-index l.fn.events)
