-- Every request has an answer, so a text has one outcome and one reply, and an input prints one text.
use Rattle.wgsl_lines.proofs.Common.{ℕ, ◌≡◌, List, Option, Some, None, refl, inl, inr, WgslType, Members, RuleSet, types_of, list_fits, WgslCall, ReplyText}
use Rattle.wgsl_lines.proofs.Common.{IsReplyTo, one_to_request, [], ◌∷◌, AllZip, list_all, IsReplyToLine, one_line_reply}
use Rattle.wgsl_standard.specs.Callees.{unknown_name}
use Rattle.wgsl_standard.specs.Lines.{lines_named}
use Rattle.wgsl_requests.specs.Answers.{Answers, WgslAnswer, WgslLayout, a_number, a_size, a_common_type, a_type, a_value, some_offsets, a_layout, a_type_of, a_resolution_of, some_lines, a_form_type, a_fit, rank_is, common_is, unary_is, binary_is, size_is, offsets_are, layout_is, ctor_is, call_is, type_of_is, resolution_of_is, explanation_of_is, unknown_is, overloads_of_are, form_is, fit_is}
use Rattle.wgsl_requests.specs.Requests.{WgslRequest, rank, common, unary, binary, size, offsets, layout, ctor, call, type_of, resolution_of, explanation_of, overloads_of, form_of, fit_of}
use Rattle.wgsl_requests.proofs.OneAnswer.{one_form_type, one_explanation, one_resolution, one_type, HasOne, EachAnswered}
use Rattle.wgsl_lines.proofs.Calls.{a_call, a_constructor}
use Rattle.wgsl_lines.proofs.Operators.{a_rank, a_received, a_binary, a_unary}
use Rattle.wgsl_lines.proofs.Sizes.{exact_alignment, exact_size, layout_or_cause, offsets_or_cause}
use Rattle.wgsl_requests.specs.expressions.Outcomes.{Outcome}
use Rattle.wgsl_requests.specs.expressions.Source.{Scope}
use Rattle.wgsl_requests.specs.expressions.Typing.{IsTyped}
use Rattle.wgsl_requests.proofs.OneOutcome.{one_outcome}
use Rattle.std.proofs.Common.{Bool}
use Rattle.wgsl_lines.specs.Output.{Prints, is_readable, lines_of, printed_from}
use Rattle.wgsl_lines.proofs.Taken.{one_text}

abbrev pub Answered : WgslRequest → Type 0
Answered request = (a : WgslAnswer) × Answers request a

of_common : (rules : RuleSet) (ts : List WgslType) → Answered (common rules ts)
of_common rules ts = let c = a_received ts in (a_common_type rules c.0, common_is c.0 c.1)

of_offsets : (rules : RuleSet) (name : List ℕ) (ms : Members) → Answered (offsets rules name ms)
of_offsets rules name ms = elim (offsets_or_cause rules ms) [
  | inl o ↦ (some_offsets (Some o.0), offsets_are (Some o.0) o.1)
  | inr cause ↦ (some_offsets None, offsets_are None cause)
]

of_layout : (rules : RuleSet) (name : List ℕ) (ms : Members) → Answered (layout rules name ms)
of_layout rules name ms = elim (layout_or_cause rules ms) [
  | inl h ↦ let l : WgslLayout = record { layouts = h.sized.layouts; offsets = h.offsets; size = h.size; align = h.align } in
      (a_layout name ms (Some l), layout_is (Some l) h.layout)
  | inr cause ↦ (a_layout name ms None, layout_is None cause)
]

some_explanation : (c : WgslCall) (unknown : Option (List ℕ)) → unknown_name c.callee ≡ unknown → Answered (explanation_of c)
some_explanation c (Some name) is = (a_type_of c None, unknown_is name is)
some_explanation c None is = let r = (one_explanation c).some tt in (some_lines r.0, explanation_of_is r.0 is r.1)

pub some_answer : (request : WgslRequest) → Answered request
some_answer (rank t u) = let w = a_rank t u in (a_number w.0, rank_is w.0 w.1)
some_answer (common rules ts) = of_common rules ts
some_answer (unary o t) = let r = a_unary o t in (a_type r.0, unary_is r.0 r.1)
some_answer (binary o t u) = let r = a_binary o t u in (a_type r.0, binary_is r.0 r.1)
some_answer (size rules t) = let s = exact_size rules t in let a = exact_alignment rules t in (a_size s.0 a.0, size_is s.0 a.0 s.1 a.1)
some_answer (offsets rules name ms) = of_offsets rules name ms
some_answer (layout rules name ms) = of_layout rules name ms
some_answer (ctor c) = let r = a_constructor c in (a_type r.0, ctor_is r.0 r.1)
some_answer (call c) = let r = a_call c in (a_value r.0, call_is r.0 r.1)
some_answer (type_of c) = let r = (one_type c).some tt in (a_type_of c r.0, type_of_is r.0 r.1)
some_answer (resolution_of c) = let r = (one_resolution c).some tt in (a_resolution_of c r.0, resolution_of_is r.0 r.1)
some_answer (explanation_of c) = some_explanation c (unknown_name c.callee) refl
some_answer (overloads_of name) = (some_lines (lines_named name), overloads_of_are (lines_named name) refl)
some_answer (form_of f) = let r = (one_form_type f).some tt in (a_form_type r.0, form_is r.0 r.1)
some_answer (fit_of taker xs ts) = let r = list_fits taker ts (types_of xs) in (a_fit r, fit_is r refl)

abbrev Only : {A : Type 0} → (A → Type 0) → Type 0
Only {A} R = (r : A) × R r × ((other : A) → R other → other ≡ r)

only : {A : Type 0} {R : A → Type 0} → HasOne EachAnswered R → Only R
only one = let r = one.some some_answer in (r.0, r.1, λ other is. one.once other r.0 is r.1)

pub only_outcome : (scope : Scope) (text : List ℕ) → (r : Option Outcome) × IsTyped scope text r × ((other : Option Outcome) → IsTyped scope text other → other ≡ r)
only_outcome scope text = only (one_outcome scope text)

pub only_reply : (rules : RuleSet) (bytes : List ℕ) → (reply : ReplyText) × IsReplyTo rules bytes reply × ((other : ReplyText) → IsReplyTo rules bytes other → other ≡ reply)
only_reply rules bytes = only (one_to_request rules bytes)

some_replies : (rules : RuleSet) (lines : List (List ℕ)) → (replies : List ReplyText) × AllZip (IsReplyToLine rules) lines replies
some_replies rules [] = ([], tt)
some_replies rules (line ∷ lines) = let r = (one_line_reply rules line).some some_answer in let rs = some_replies rules lines in (r.0 ∷ rs.0, (r.1, rs.1))

-- exactly one text, with one answer to whether every line is readable
pub only_text : (rules : RuleSet) (input : List ℕ) → (text : List ℕ) × (readable : Bool) × Prints rules input text readable
    × ((other : List ℕ) (all : Bool) → Prints rules input other all → (other ≡ text) × (all ≡ readable))
only_text rules input =
    let rs = some_replies rules (lines_of input) in
    let text = printed_from 1 rs.0 in
    let readable = list_all is_readable rs.0 in
    let prints : Prints rules input text readable = record { replies = rs.0; each = rs.1; text_is = refl; readable_is = refl } in
    (text, readable, prints, λ other all more. one_text rules input other text all readable more prints)
