use Rattle.std.proofs.Common.{◌-◌, ◌≤◌, ◌≢◌, All, length, take}
use Rattle.wgsl_lines.proofs.line.split_line.Given as goal

abbrev pub invariant-loop-end : goal.invariant-loop-end
invariant-loop-end l = (l.end ≤ length l.bytes) × All (λ byte. byte ≢ 10) (take l.end l.bytes)

abbrev pub decreases-loop-end : goal.decreases-loop-end
decreases-loop-end l = length l.bytes - l.end
