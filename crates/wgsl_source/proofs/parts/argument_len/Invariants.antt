use Rattle.std.proofs.Common.{◌≡◌, ◌-◌, ◌≤◌, drop, length}
use Rattle.wgsl_source.specs.Declarations.{argument_len}
use Rattle.wgsl_source.proofs.Lengths.{behind}
use Rattle.wgsl_source.proofs.parts.argument_len.Given as goal

abbrev pub invariant-loop-at : goal.invariant-loop-at
invariant-loop-at l = (l.at ≤ length l.events) × (l.calls ≤ l.at) × (argument_len 0 l.events ≡ behind l.at (argument_len l.calls (drop l.at l.events)))

abbrev pub decreases-loop-at : goal.decreases-loop-at
decreases-loop-at l = length l.events - l.at
