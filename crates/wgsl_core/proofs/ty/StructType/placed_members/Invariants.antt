use Rattle.wgsl_core.proofs.Layouts.{PlacedTo}
use Rattle.wgsl_core.proofs.ty.StructType.placed_members.Given as goal

abbrev pub invariant-loop-member : goal.invariant-loop-member
invariant-loop-member l = PlacedTo l.rules l.member-items l.members.items l.placing.end l.member-index
