use Rattle.std.proofs.Common.{◌≡◌, ◌≢◌, ◌+◌, ◌-◌, ◌≤◌, drop, length}
use Rattle.wgsl_source.specs.Declarations.{unclosed_len}
use Rattle.wgsl_source.proofs.parts.unclosed_len.Given as goal

abbrev pub invariant-loop-at : goal.invariant-loop-at
invariant-loop-at l = (l.at ≤ length l.events) × (l.lists ≤ l.at + 1) × (l.lists ≢ 0) × (unclosed_len 1 l.fn.events ≡ l.at + unclosed_len l.lists (drop l.at l.events))

abbrev pub decreases-loop-at : goal.decreases-loop-at
decreases-loop-at l = length l.events - l.at
