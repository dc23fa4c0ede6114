use Rattle.std.proofs.Common.{take}
use Rattle.wgsl_source.proofs.Placed.{ArePlaced}
use Rattle.wgsl_source.specs.Members.{AreSameMembers, members_of}
use Rattle.wgsl_source.proofs.structure.laid_out.Given as goal

abbrev pub invariant-loop-next : goal.invariant-loop-next
invariant-loop-next l = record {
  placed : ArePlaced l.members.items l.placing.end l.placing.greatest;
  same : AreSameMembers l.members.items (members_of (take l.next-index l.written));
}
