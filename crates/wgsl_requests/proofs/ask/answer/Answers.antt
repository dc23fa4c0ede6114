use Rattle.wgsl_requests.proofs.Shared.{◌≡◌, ℕ, Vec, Global, Option, Some, None, Result, Ok, Err, refl, subst, option_map, IfSome, AllocError, RuleSet, Members}
use Rattle.wgsl_requests.proofs.Shared.{AreOffsetsBy, HasNoSizeBy, IsLayoutOfBy, Fail, StructLayout, WgslRequest, layout_view, outcome, ap, map, sym, ◌∙◌}
use Rattle.wgsl_requests.proofs.Shared.{struct_view, view, unary, ctor, call, list_fits, taker_view}
use Rattle.wgsl_rules.specs.errors.Refusals.{Refusal}
use Rattle.wgsl_core.specs.Answer.{AnswersAs, IsAnswered}
use Rattle.wgsl_core.specs.declared.error.Error.{Error}
use Rattle.wgsl_core.specs.declared.error.Fail.TheVariants as fails
use Rattle.wgsl_requests.specs.Answers.{Answers, AreOffsetsOf, IsLayoutOf, WgslAnswer, a_type, rank_is, unary_is, binary_is, size_is, offsets_are, layout_is, ctor_is, call_is, type_of_is, resolution_of_is, explanation_of_is, unknown_is, overloads_of_are, form_is, fit_is}
use Rattle.wgsl_rules.specs.operators.Answers.{IsUnaryAnswer}
use Rattle.wgsl_rules.specs.constructors.Constructors.{IsConstructorAnswer}
use Rattle.wgsl_rules.specs.calls.Answers.{IsCallAnswer}
use Rattle.wgsl_rules.specs.types.Signatures.{Signature}
use Rattle.wgsl_calls.specs.Calls.{signature_of}
use Rattle.wgsl_calls.specs.Returned.{Returns}
use Rattle.wgsl_calls.specs.declared.call.Returned.{Returned}
use Rattle.wgsl_requests.specs.Views.{value_view}
use Rattle.wgsl_requests.proofs.Overloaded.{same_types}
use Rattle.wgsl_requests.proofs.ask.answer.Goals as goal

-- what the library returns, as an answer shows it
settles : {A B : Type 0} (answered : Result B Refusal → WgslAnswer) (shown : A → B) (P : Result B Refusal → Type 0) (request : WgslRequest) {made : Result A (Fail Error)} (r : Result A (Fail Error)) →
    (made ≡ r) × IsAnswered r → AnswersAs shown P made → ((x : Result B Refusal) → P x → Answers request (answered x)) → Answers request (outcome answered shown r)
settles answered shown P request (Ok a) e h so = so _ (subst (AnswersAs shown P) e.0 h)
settles answered shown P request (Err (fails.Error x)) e h so = so _ (subst (AnswersAs shown P) e.0 h)
settles answered shown P request (Err (fails.Memory x)) e h so = absurd e.1

-- the same of a call
returned : (c : Signature) {made : Result Returned (Fail Error)} (r : Result Returned (Fail Error)) → (made ≡ r) × IsAnswered r → Returns (IsCallAnswer c) c made → Answers (call c) (value_view c r)
returned c (Ok x) e h = call_is _ (subst (Returns (IsCallAnswer c) c) e.0 h)
returned c (Err (fails.Error x)) e h = call_is _ (subst (Returns (IsCallAnswer c) c) e.0 h)
returned c (Err (fails.Memory x)) e h = absurd e.1

offsets_seen : (rules : RuleSet) (ms : Members) (found : Option (Vec ℕ Global)) → (let r : Result (Option (Vec ℕ Global)) AllocError = Ok found in r ≡ Ok None → HasNoSizeBy rules ms) → IfSome found (λ v. AreOffsetsBy rules ms v.items) →
    AreOffsetsOf rules ms (option_map (λ v. v.items) found)
offsets_seen rules ms (Some v) none some = some
offsets_seen rules ms None none some = none refl

layout_seen : (rules : RuleSet) (ms : Members) (found : Option StructLayout) → (let r : Result (Option StructLayout) AllocError = Ok found in r ≡ Ok None → HasNoSizeBy rules ms) → IfSome found (IsLayoutOfBy rules ms) →
    IsLayoutOf rules ms (option_map layout_view found)
layout_seen rules ms (Some l) none some = some
layout_seen rules ms None none some = none refl

pub returns-in-Rank : goal.returns-in-Rank
returns-in-Rank c = rw c.in-Rank.is (rank_is _ c.conversion_rank.ensures)

pub returns-in-Size : goal.returns-in-Size
returns-in-Size c = rw c.in-Size.is (size_is _ _ c.size_and_align_by-size.ensures.size c.size_and_align_by-size.ensures.align)

pub returns-in_ok-settled-in-Unary : goal.returns-in_ok-settled-in-Unary
returns-in_ok-settled-in-Unary c =
    let o = c.in-Unary.operator in
    let t = view c.in-Unary.operand.now in
    let h = c.in_ok-settled-in-Unary in
    rw c.in-Unary.is (settles a_type view (IsUnaryAnswer o t) (unary o t) h.field-0 h.ensures c.type_unary_op-made.ensures.row (λ r d. unary_is r d))

pub returns-in-Binary : goal.returns-in-Binary
returns-in-Binary c = rw c.in-Binary.is (binary_is _ c.resolved_type.ensures)

pub returns-in_ok-offsets_by-in-Offsets : goal.returns-in_ok-offsets_by-in-Offsets
returns-in_ok-offsets_by-in-Offsets c =
    let h = c.in_ok-offsets_by-in-Offsets in
    rw c.in-Offsets.is (offsets_are _ (offsets_seen c.in-Offsets.rules (struct_view c.in-Offsets.structure.now).members h.field-0 h.ensures.none.1 h.ensures.offsets))

pub returns-in_ok-layout_by-in-Layout : goal.returns-in_ok-layout_by-in-Layout
returns-in_ok-layout_by-in-Layout c =
    let h = c.in_ok-layout_by-in-Layout in
    rw c.in-Layout.is (layout_is _ (layout_seen c.in-Layout.rules (struct_view c.in-Layout.structure.now).members h.field-0 h.ensures.none.1 h.ensures.layout))

pub returns-in_ok-settled-in-Constructor : goal.returns-in_ok-settled-in-Constructor
returns-in_ok-settled-in-Constructor c =
    let made = signature_of c.in-Constructor.named in
    let h = c.in_ok-settled-in-Constructor in
    rw c.in-Constructor.is (settles a_type view (IsConstructorAnswer made) (ctor made) h.field-0 h.ensures c.type_ctor-made.ensures.row (λ r d. ctor_is r d))

pub returns-in_ok-settled-in-Call : goal.returns-in_ok-settled-in-Call
returns-in_ok-settled-in-Call c =
    let h = c.in_ok-settled-in-Call in
    rw c.in-Call.is (returned (signature_of c.in-Call.named) h.field-0 h.ensures c.returned_by-made.ensures)

pub returns-in_ok-type_of-in-Type : goal.returns-in_ok-type_of-in-Type
returns-in_ok-type_of-in-Type c = rw c.in-Type.is (type_of_is _ c.in_ok-type_of-in-Type.ensures)

pub returns-in_ok-resolution_of-in-Resolution : goal.returns-in_ok-resolution_of-in-Resolution
returns-in_ok-resolution_of-in-Resolution c = rw c.in-Resolution.is (resolution_of_is _ c.in_ok-resolution_of-in-Resolution.ensures)

pub returns-in_ok-signatures_named-in-Overloads : goal.returns-in_ok-signatures_named-in-Overloads
returns-in_ok-signatures_named-in-Overloads c = rw c.in-Overloads.is (overloads_of_are _ c.in_ok-signatures_named-in-Overloads.ensures)

pub returns-in-Some : goal.returns-in-Some
returns-in-Some c = rw c.in-Explanation.is (unknown_is _ (sym c.unknown_name.ensures ∙ ap (option_map (λ name. name.now)) c.in-Some.is))

pub returns-in_ok-notes_on-in-None : goal.returns-in_ok-notes_on-in-None
returns-in_ok-notes_on-in-None c =
    let known = sym c.unknown_name.ensures ∙ ap (option_map (λ name. name.now)) c.in-None.is in
    rw c.in-Explanation.is (explanation_of_is _ known c.in_ok-notes_on-in-None.ensures)

pub returns-in-Form : goal.returns-in-Form
returns-in-Form c = rw c.in-Form.is (form_is _ c.type_of_form.ensures)

pub returns-in-Fit : goal.returns-in-Fit
returns-in-Fit c =
    let asked = c.in-Fit in
    rw asked.is (fit_is _ (c.fit.ensures ∙ ap (list_fits (taker_view asked.taker) (map view asked.types.now)) (same_types asked.values.now)))
