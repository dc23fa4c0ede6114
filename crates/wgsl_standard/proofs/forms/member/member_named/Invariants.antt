use Rattle.std.proofs.Common.{◌≡◌, drop}
use Rattle.wgsl_core.specs.internal.View.{members_view}
use Rattle.wgsl_standard.specs.forms.Member.{member_named}
use Rattle.wgsl_standard.proofs.forms.member.member_named.Given as goal

abbrev pub invariant-loop-member : goal.invariant-loop-member
invariant-loop-member l = member_named (members_view (drop l.member-index l.member-items)) l.name ≡ member_named (members_view l.member-items) l.name
