use Rattle.std.proofs.Common.{◌≡◌, length, map, Some, None, sym, ap, ◌∙◌, subst, string_bytes}
use Rattle.wgsl_calls.proofs.Common.{param_count, view, members_view, out-StructType, IsMisfitAt}
use Rattle.wgsl_calls.proofs.Constructed.{refused_number, not_filled_by_number, refused_member, not_filled_by_member, filled}
use Rattle.wgsl_calls.proofs.constructor.structure.check_members.Goals as goal

pub returns-in_err-refuse_count-clause-never_out_of_memory : goal.returns-in_err-refuse_count-clause-never_out_of_memory
returns-in_err-refuse_count-clause-never_out_of_memory c =
    λ h. absurd (not_filled_by_number c.args.s.now c.args.args.now (λ e. c.if-members-args.true (ap length c.as_slice-members.ensures.value ∙ e)) h)

pub returns-then-members-args-clause-row : goal.returns-then-members-args-clause-row
returns-then-members-args-clause-row c =
    refused_number c.args.s.now c.args.args.now _ (λ e. c.if-members-args.true (ap length c.as_slice-members.ensures.value ∙ e))
    (c.in_ok-refuse_count.ensures ∙ ap (λ x. param_count x (length c.as_slice-members.result.now) (length c.args.args.now)) c.as_str.ensures.value
    ∙ ap (λ k. param_count (string_bytes (out-StructType c.args.s.now).name) k (length c.args.args.now)) (ap length c.as_slice-members.ensures.value))

pub returns-in_err-refuse_parameter-in-Some-clause-never_out_of_memory : goal.returns-in_err-refuse_parameter-in-Some-clause-never_out_of_memory
returns-in_err-refuse_parameter-in-Some-clause-never_out_of_memory c =
    let items = ((out-StructType c.args.s.now).members).items in
    let n : length items ≡ length c.args.args.now = sym (ap length c.as_slice-members.ensures.value) ∙ c.if-members-args.false in
    let p = c.as_slice-members.ensures.value in
    λ h. absurd (not_filled_by_member c.args.s.now c.args.args.now _ _
    (subst (λ xs. IsMisfitAt (members_view xs) (map view c.args.args.now) (Some (view c.in-Some.member.now.ty, view c.in-Some.arg.now))) p (c.in-Some.ensures c.if-members-args.false)) h)

pub returns-in_ok-refuse_parameter-in-Some-clause-row : goal.returns-in_ok-refuse_parameter-in-Some-clause-row
returns-in_ok-refuse_parameter-in-Some-clause-row c =
    let items = ((out-StructType c.args.s.now).members).items in
    let n : length items ≡ length c.args.args.now = sym (ap length c.as_slice-members.ensures.value) ∙ c.if-members-args.false in
    let p = c.as_slice-members.ensures.value in
    refused_member c.args.s.now c.args.args.now _ _ _ n
    (subst (λ xs. IsMisfitAt (members_view xs) (map view c.args.args.now) (Some (view c.in-Some.member.now.ty, view c.in-Some.arg.now))) p (c.in-Some.ensures c.if-members-args.false))
    c.in_ok-refuse_parameter-in-Some.ensures

pub returns-in-None-clause-row : goal.returns-in-None-clause-row
returns-in-None-clause-row c =
    let items = ((out-StructType c.args.s.now).members).items in
    let n : length items ≡ length c.args.args.now = sym (ap length c.as_slice-members.ensures.value) ∙ c.if-members-args.false in
    let p = c.as_slice-members.ensures.value in
    filled c.args.s.now c.args.args.now n (subst (λ xs. IsMisfitAt (members_view xs) (map view c.args.args.now) None) p (c.in-None.ensures c.if-members-args.false))
