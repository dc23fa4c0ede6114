use Rattle.std.proofs.Common.{◌≡◌, drop}
use Rattle.wgsl_standard.proofs.CommonForms.{members_view, are_host_shareable}
use Rattle.wgsl_standard.proofs.forms.kinds.+host_shareable.Given as goal

abbrev pub invariant-are_host_shareable-loop-member : goal.invariant-are_host_shareable-loop-member
invariant-are_host_shareable-loop-member l =
    are_host_shareable (members_view (drop l.member-index l.member-items)) ≡ are_host_shareable (members_view l.member-items)
