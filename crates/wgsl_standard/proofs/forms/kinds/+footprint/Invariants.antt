use Rattle.std.proofs.Common.{◌≡◌, drop}
use Rattle.wgsl_standard.proofs.CommonForms.{members_view, have_fixed_footprint}
use Rattle.wgsl_standard.proofs.forms.kinds.+footprint.Given as goal

abbrev pub invariant-have_fixed_footprint-loop-member : goal.invariant-have_fixed_footprint-loop-member
invariant-have_fixed_footprint-loop-member l =
    have_fixed_footprint l.atomics (members_view (drop l.member-index l.members)) ≡ have_fixed_footprint l.atomics (members_view l.members)
