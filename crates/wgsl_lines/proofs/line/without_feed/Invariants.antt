use Rattle.std.proofs.Common.{◌-◌, ◌≤◌, ◌≢◌, All, length, take}
use Rattle.wgsl_lines.proofs.line.without_feed.Given as goal

abbrev pub invariant-loop-passed : goal.invariant-loop-passed
invariant-loop-passed l = (l.passed ≤ length l.bytes) × All (λ byte. byte ≢ 10) (take l.passed l.bytes)

abbrev pub decreases-loop-passed : goal.decreases-loop-passed
decreases-loop-passed l = length l.bytes - l.passed
