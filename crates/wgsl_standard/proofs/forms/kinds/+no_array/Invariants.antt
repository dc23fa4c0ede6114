use Rattle.std.proofs.Common.{◌≡◌, drop}
use Rattle.wgsl_standard.proofs.CommonForms.{members_view, have_no_array}
use Rattle.wgsl_standard.proofs.forms.kinds.+no_array.Given as goal

abbrev pub invariant-have_no_array-loop-member : goal.invariant-have_no_array-loop-member
invariant-have_no_array-loop-member l =
    have_no_array (members_view (drop l.member-index l.members)) ≡ have_no_array (members_view l.members)
