use Rattle.std.proofs.Common.{List, length}
use Rattle.wgsl_source.proofs.Common.{Event, BehindAttributes}
use Rattle.wgsl_source.proofs.parts.behind_attributes.Given as goal

-- what stands behind the attributes that are left stands behind all
abbrev pub invariant-loop-split : goal.invariant-loop-split
invariant-loop-split l = (rest : List Event) → BehindAttributes l.rest rest → BehindAttributes l.fn.events rest

abbrev pub decreases-loop-split : goal.decreases-loop-split
decreases-loop-split l = length l.rest
