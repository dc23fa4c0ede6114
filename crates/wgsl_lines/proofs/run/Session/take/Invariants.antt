use Rattle.wgsl_lines.proofs.Common.{List, ℕ, length, HasTaken}
use Rattle.wgsl_lines.proofs.Taken.{TakesPart}
use Rattle.wgsl_lines.proofs.run.Session.take.Given as goal

abbrev pub invariant-loop-end : goal.invariant-loop-end
invariant-loop-end l = (bytes before : List ℕ) → HasTaken l.rules bytes before l.fn.self → TakesPart l.rules bytes before l.block l.rest l.self

abbrev pub decreases-loop-end : goal.decreases-loop-end
decreases-loop-end l = length l.rest
