use Rattle.std.proofs.Common.{◌≡◌, take}
use Rattle.wgsl_core.specs.Layout.{offsets_of}
use Rattle.wgsl_core.proofs.layout.member_offsets.Given as goal

abbrev pub invariant-loop-member : goal.invariant-loop-member
invariant-loop-member l = l.offsets.items ≡ offsets_of (take l.member-index l.members)
