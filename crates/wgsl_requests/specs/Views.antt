-- How the rules see requests and answers.
use Rattle.std.specs.Prelude.{◌++◌, ℕ, List, [], ◌∷◌, Option, Some, None, Result, Ok, Err, map, option_map}
use Rattle.wgsl_requests.specs.Prelude.{Refusal, Signature, binary as refused_operands, Operand, WgslType, refusal, parameter_view, member_view, struct_view, view, Error, Fail}
use Rattle.wgsl_requests.specs.Prelude.{answer_view as form_answer, form_type_view, taker_view, callee_view, given_type, result_view}
use Rattle.wgsl_requests.specs.Prelude.{resolved_view as resolved_call_view, line_of, note_text}
use Rattle.wgsl_core.specs.Layout.{layouts_of, offsets_of}
use Rattle.wgsl_core.specs.declared.error.Fail.TheVariants as fails
use Rattle.wgsl_core.specs.declared.layout.PlacedMember.{PlacedMember}
use Rattle.wgsl_core.specs.declared.layout.StructLayout.{StructLayout}
use Rattle.wgsl_core.specs.declared.operators.resolve.ResolvedType.{ResolvedType}
use Rattle.wgsl_core.specs.declared.ty.StructMemberType.{StructMemberType}
use Rattle.wgsl_core.specs.internal.Resolution.{resolved_view}
use Rattle.wgsl_requests.specs.Texts.{member_line}
use Rattle.wgsl_types.specs.declared.typed.Typed.{Typed}
use Rattle.wgsl_requests.specs.declared.requests.Call.{Call}
use Rattle.wgsl_requests.specs.declared.requests.Form.{Form}
use Rattle.wgsl_requests.specs.declared.requests.Form.TheVariants as forms
use Rattle.wgsl_requests.specs.declared.requests.Request.{Request}
use Rattle.wgsl_requests.specs.declared.requests.Request.TheVariants as requests
use Rattle.wgsl_requests.specs.declared.answers.Operands.{Operands}
use Rattle.wgsl_requests.specs.declared.answers.Answer.{Answer}
use Rattle.wgsl_requests.specs.declared.answers.Answer.TheVariants as answers
use Rattle.wgsl_calls.specs.Calls.{signature_of}
use Rattle.wgsl_calls.specs.Returned.{returned_view}
use Rattle.wgsl_calls.specs.declared.call.Returned.{Returned}
use Rattle.wgsl_standard.specs.declared.operand.Operand.{Operand as CodeOperand}
use Rattle.wgsl_requests.specs.Standard.{WgslCall}
use Rattle.wgsl_requests.specs.Requests.{WgslForm, member_of, index_of, load_of, declaration_of, override_of, assignment_of, increment_of, discard_of, construct_of, switch_of, address_of, indirection_of, array_of, typed_array_of, variable_of, initialized_of, WgslRequest, rank, unary, binary, size, offsets, layout, ctor, call, type_of, resolution_of, explanation_of, overloads_of, form_of, fit_of}
use Rattle.wgsl_requests.specs.Answers.{WgslAnswer, WgslLayout, a_number, a_size, a_type, a_value, some_offsets, a_layout, a_type_of, a_resolution_of, some_lines, a_form_type, a_fit, out_of_memory}

-- an operand as it is written
abbrev pub written_view : CodeOperand → Operand
written_view x = record { of_type = given_type x.ty; is_constant = x.is_constant }

abbrev pub call_view : Call → WgslCall
call_view c = record {
  callee = callee_view c.callee;
  template = option_map (λ ps. map parameter_view ps.now) c.template;
  operands = map written_view c.operands.now;
}

abbrev pub form_view : Form → WgslForm
form_view (forms.Member x name) = member_of (written_view x) name.now
form_view (forms.Index x i) = index_of (written_view x) (written_view i)
form_view (forms.Load x) = load_of (written_view x)
form_view (forms.Declaration d x t) = declaration_of d (written_view x) (option_map (λ t. view t.now) t)
form_view (forms.Override t) = override_of (view t.now)
form_view (forms.Assignment o x y) = assignment_of o (written_view x) (written_view y)
form_view (forms.Increment x) = increment_of (written_view x)
form_view (forms.Discard x) = discard_of (written_view x)
form_view (forms.Construct t xs) = construct_of (view t.now) (map written_view xs.now)
form_view (forms.Switch x ys) = switch_of (written_view x) (map written_view ys.now)
form_view (forms.Address x r) = address_of (written_view x) r
form_view (forms.Indirection x) = indirection_of (written_view x)
form_view (forms.Array xs) = array_of (map written_view xs.now)
form_view (forms.ArrayOf t n xs) = typed_array_of (view t.now) n (map written_view xs.now)
form_view (forms.Variable s a t) = variable_of s a (view t.now)
form_view (forms.Initialized s a x t) = initialized_of s a (written_view x) (option_map (λ t. view t.now) t)

abbrev pub request_view : Request → WgslRequest
request_view (requests.Rank t u) = rank (view t.now) (view u.now)
request_view (requests.Unary o t) = unary o (view t.now)
request_view (requests.Binary o t u) = binary o (view t.now) (view u.now)
request_view (requests.Size rules t) = size rules (view t.now)
request_view (requests.Offsets rules s) = let seen = struct_view s.now in offsets rules seen.name seen.members
request_view (requests.Layout rules s) = let seen = struct_view s.now in layout rules seen.name seen.members
request_view (requests.Constructor c) = ctor (signature_of c)
request_view (requests.Call c) = call (signature_of c)
request_view (requests.Type c) = type_of (call_view c.now)
request_view (requests.Resolution c) = resolution_of (call_view c.now)
request_view (requests.Overloads name) = overloads_of name.now
request_view (requests.Explanation c) = explanation_of (call_view c.now)
request_view (requests.Form f) = form_of (form_view f.now)
request_view (requests.Fit taker xs ts) = fit_of (taker_view taker) (map written_view xs.now) (map view ts.now)

-- a value as `shown` shows it, or the refusal
abbrev pub outcome : {A B : Type 0} → (Result B Refusal → WgslAnswer) → (A → B) → Result A (Fail Error) →
    WgslAnswer
outcome answered shown (Ok x) = answered (Ok (shown x))
outcome answered shown (Err (fails.Error e)) = answered (Err (refusal e))
outcome answered shown (Err (fails.Memory e)) = out_of_memory

-- what a call with this signature returns, or the refusal
abbrev pub value_view : Signature → Result Returned (Fail Error) → WgslAnswer
value_view c (Ok x) = a_value (returned_view c x)
value_view c (Err (fails.Error e)) = a_value (Err (refusal e))
value_view c (Err (fails.Memory e)) = out_of_memory

-- the refusal of operands
abbrev pub operands_refusal : Operands → Refusal
operands_refusal e = refused_operands e.operator (view e.lhs.now) (view e.rhs.now)

-- the type of a binary expression, or the refusal of the operands
abbrev pub binary_view : Result ResolvedType Operands → Result WgslType Refusal
binary_view (Ok t) = Ok (resolved_view t)
binary_view (Err e) = Err (operands_refusal e)

abbrev pub layout_view : StructLayout → WgslLayout
layout_view l = record {
  layouts = layouts_of l.members.items;
  offsets = offsets_of l.members.items;
  size = l.size;
  align = l.align;
}

abbrev pub answer_view : Answer → WgslAnswer
answer_view (answers.Number n) = a_number n
answer_view (answers.Size s a) = a_size s a
answer_view (answers.Type r) = outcome a_type view r
answer_view (answers.Value c r) = value_view (signature_of c) r
answer_view (answers.Binary r) = a_type (binary_view r)
answer_view (answers.Offsets o) = some_offsets (option_map (λ v. v.items) o)
answer_view (answers.Layout s l) =
    let seen = struct_view s.now in a_layout seen.name seen.members (option_map layout_view l)
answer_view (answers.TypeOf c r) = a_type_of (call_view c.now) (option_map (option_map result_view) r)
answer_view (answers.Resolution c r) = a_resolution_of (call_view c.now) (option_map resolved_call_view r)
answer_view (answers.Overloads lines) = some_lines (map line_of lines.items)
answer_view (answers.Notes notes) = some_lines (map note_text notes.items)
answer_view (answers.FormType r) = a_form_type (form_answer form_type_view r)
answer_view (answers.Fit r) = a_fit (form_answer (λ u. tt) r)

-- P holds of the refusal; out of memory is none
abbrev pub IsRefusal : (Refusal → Type 0) → Fail Error → Type 0
IsRefusal P (fails.Error e) = P (refusal e)
IsRefusal P (fails.Memory e) = ⊥

-- the line of a member with its layout
abbrev pub placed_line : StructMemberType → PlacedMember → List ℕ
placed_line m p = let seen = member_view m in member_line p.offset p.size p.align seen.name seen.ty

-- a line for each member that has a layout
abbrev pub placed_lines : List StructMemberType → List PlacedMember → List ℕ
placed_lines (m ∷ ms) (p ∷ ps) = placed_line m p ++ placed_lines ms ps
placed_lines ms ps = []

-- the type of the first value, if there is one
abbrev pub first_type_of : Option (List Typed) → Option WgslType
first_type_of (Some (x ∷ xs)) = Some (view x.ty)
first_type_of (Some []) = None
first_type_of None = None
