use Rattle.std.proofs.Common.{◌≡◌, refl, subst, ◌∙◌, ◌&&◌}
use Rattle.wgsl_standard.proofs.CommonForms.{member_view, members_view, may_end, may_end_members}
use Rattle.wgsl_standard.proofs.Footprints.{last_ends}
use Rattle.wgsl_standard.proofs.forms.variable.members_end_in_array.Goals as goal

pub returns-then-have_fixed_footprint : goal.returns-then-have_fixed_footprint
returns-then-have_fixed_footprint c =
    let e = c.member_may_end.result in
    subst (λ h. (h && e) ≡ may_end_members c.args.atomics (members_view c.args.members.now)) c.if-have_fixed_footprint.true
    (last_ends c.args.atomics c.args.members.now c.in-Some.rest.now c.in-Some.last.now c.have_fixed_footprint.result e
    c.in-Some.ensures.cases.0 c.have_fixed_footprint.ensures c.member_may_end.ensures)

pub returns-else-have_fixed_footprint : goal.returns-else-have_fixed_footprint
returns-else-have_fixed_footprint c =
    let e = may_end c.args.atomics (member_view c.in-Some.last.now).ty in
    c.if-have_fixed_footprint.false
    ∙ subst (λ h. (h && e) ≡ may_end_members c.args.atomics (members_view c.args.members.now)) c.if-have_fixed_footprint.false
    (last_ends c.args.atomics c.args.members.now c.in-Some.rest.now c.in-Some.last.now c.have_fixed_footprint.result e
    c.in-Some.ensures.cases.0 c.have_fixed_footprint.ensures refl)
