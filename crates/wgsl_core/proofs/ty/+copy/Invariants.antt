use Rattle.std.proofs.Common.{◌≡◌, take, map}
use Rattle.wgsl_core.specs.View.{member_view}
use Rattle.wgsl_core.proofs.ty.+copy.Given as goal

abbrev pub invariant-clone::copy_members-loop-member : goal.invariant-clone::copy_members-loop-member
invariant-clone::copy_members-loop-member l = map member_view l.copies.items ≡ map member_view (take l.member-index l.member-items)
