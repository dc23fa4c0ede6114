use Rattle.std.proofs.Common.{◌≡◌, ◌-◌, ◌≤◌, drop, length}
use Rattle.wgsl_source.specs.Declarations.{len_to}
use Rattle.wgsl_source.proofs.Lengths.{behind}
use Rattle.wgsl_source.proofs.parts.len_to.Given as goal

abbrev pub invariant-loop-at : goal.invariant-loop-at
invariant-loop-at l = (l.at ≤ length l.events) × (len_to l.fn.end l.events ≡ behind l.at (len_to l.fn.end (drop l.at l.events)))

abbrev pub decreases-loop-at : goal.decreases-loop-at
decreases-loop-at l = length l.events - l.at
