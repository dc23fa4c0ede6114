use Rattle.std.proofs.Common.{◌≡◌, take, map}
use Rattle.wgsl_core.specs.View.{member_view}
use Rattle.wgsl_standard.proofs.forms.layout.copies.Given as goal

abbrev pub invariant-loop-member : goal.invariant-loop-member
invariant-loop-member l = map member_view l.copies.items ≡ map member_view (take l.member-index l.members)
