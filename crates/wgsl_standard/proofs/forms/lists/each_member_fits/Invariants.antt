use Rattle.std.proofs.Common.{◌≡◌, drop}
use Rattle.wgsl_standard.proofs.CommonForms.{members_view, types_given, each_fits, member_types}
use Rattle.wgsl_standard.proofs.forms.lists.each_member_fits.Given as goal

abbrev pub invariant-loop-i : goal.invariant-loop-i
invariant-loop-i l =
    each_fits (member_types (members_view (drop l.i l.members))) (types_given (drop l.i l.values))
    ≡ each_fits (member_types (members_view l.members)) (types_given l.values)
