use Rattle.std.proofs.Common.{length}
use Rattle.wgsl_source.proofs.attribute.count_of.Given as goal

abbrev pub decreases-loop-split : goal.decreases-loop-split
decreases-loop-split l = length l.rest
