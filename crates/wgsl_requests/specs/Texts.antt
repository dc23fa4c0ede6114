-- How answers are written.
use Rattle.std.specs.Prelude.{ℕ, ◌-◌, List, [], ◌∷◌, ◌++◌, codes, decimal, flat_map, length, replicate, ◌≡◌, Option, Some, None, Result, Ok, Err, OnOk, String, string_bytes}
use Rattle.wgsl_requests.specs.Prelude.{WgslType, Members, member, spelling, MemberLayout, spelling_by, wgsl_spelling, message, types_of, listed}
use Rattle.wgsl_requests.specs.Prelude.{template_text, unknown_name, name_of, refusal_text}
use Rattle.wgsl_requests.specs.Answers.{WgslLayout, WgslAnswer, a_number, a_size, a_common_type, a_type, a_value, some_offsets, a_layout, a_type_of, a_resolution_of, some_lines, a_form_type, a_fit, out_of_memory}
use Rattle.wgsl_standard.specs.Meant.{meant}
use Rattle.wgsl_requests.specs.Standard.{WgslCall, WgslResolution, loaded}
use Rattle.wgsl_requests.specs.declared.reply.TextKind.{TextKind}
use Rattle.wgsl_requests.specs.declared.reply.TextKind.TheVariants as kinds

-- numbers with a space between: `0 16 32`
abbrev pub spaced : List ℕ → List ℕ
spaced [] = []
spaced (n ∷ ns) = decimal n ++ flat_map (λ m. codes " " ++ decimal m) ns

-- a text at the right of a column that is ten wide
abbrev pub column : List ℕ → List ℕ
column text = replicate (10 - length text) 32 ++ text

-- three columns, each with a space after it
abbrev pub columns : List ℕ → List ℕ → List ℕ → List ℕ
columns first second third =
    column first ++ codes " " ++ column second ++ codes " " ++ column third ++ codes " "

-- a member's line: its offset, size and alignment, its name and its type
--         16         12         16 b vec3<f32>
abbrev pub member_line : ℕ → ℕ → ℕ → List ℕ → WgslType → List ℕ
member_line offset size align name t =
    columns (decimal offset) (decimal size) (decimal align)
    ++ name ++ codes " " ++ spelling t ++ codes "\n"

-- a line for each member
abbrev pub member_lines : Members → List MemberLayout → List ℕ → List ℕ
member_lines (member name t size align ms) (layout ∷ layouts) (offset ∷ offsets) =
    member_line offset layout.size layout.align name t ++ member_lines ms layouts offsets
member_lines ms layouts offsets = []

-- the struct's line: its size, a dash, its alignment and its name
--         32          -         16 S
abbrev pub struct_line : List ℕ → ℕ → ℕ → List ℕ
struct_line name size align = columns (decimal size) (codes "-") (decimal align) ++ name

-- a line for each member, and one for the struct
abbrev pub layout_text : List ℕ → Members → WgslLayout → List ℕ
layout_text name ms l = member_lines ms l.layouts l.offsets ++ struct_line name l.size l.align

-- the call writes this text at the end of another, unless it is out of memory
abbrev pub Writes : {Z E : Type 0} → List ℕ → String Z → String Z → Result (Unit {0}) E → Type 0
Writes text old new r = OnOk r (string_bytes new ≡ string_bytes old ++ text)

-- the text of a value, or `none`
abbrev pub or_none : {A : Type 0} → (A → List ℕ) → Option A → List ℕ
or_none text (Some x) = text x
or_none text None = codes "none"

-- the text of a value, or the message of a refusal
abbrev pub or_message : {A E : Type 0} → (A → List ℕ) → (E → List ℕ) → Result A E → List ℕ
or_message text message (Ok x) = text x
or_message text message (Err e) = message e

-- what a call returns
abbrev pub value_text : Option WgslType → List ℕ
value_text (Some t) = spelling t
value_text None = codes "no value"

-- lines, or `none` if there is none
abbrev pub lines_text : List (List ℕ) → List ℕ
lines_text [] = codes "none"
lines_text (line ∷ lines) = line ++ flat_map (λ line. codes "\n" ++ line) lines

-- ``; did you mean `mix`?``
abbrev pub suggestion : Option (List ℕ) → List ℕ
suggestion (Some name) = codes "; did you mean `" ++ name ++ codes "`?"
suggestion None = []

-- ``no overload of `vec3<f32>` takes (bool, i32)``; a reference is shown as the type that it loads as
abbrev pub no_candidate_text : WgslCall → List ℕ
no_candidate_text c = codes "no overload of `" ++ name_of c.callee ++ template_text c.template ++ codes "` takes ("
    ++ listed wgsl_spelling (types_of (loaded c.operands)) ++ codes ")"

-- ``nothing has the name `mxi`; did you mean `mix`?``
abbrev pub unknown_text : List ℕ → List ℕ
unknown_text name = codes "nothing has the name `" ++ name ++ codes "`" ++ suggestion (meant name)

abbrev pub refusal_for : Option (List ℕ) → WgslCall → List ℕ
refusal_for (Some name) c = unknown_text name
refusal_for None c = no_candidate_text c

-- why a call has no answer
abbrev pub no_overload_text : WgslCall → List ℕ
no_overload_text c = refusal_for (unknown_name c.callee) c

-- the text of a value, or why there is none
abbrev pub or_no_overload : {A : Type 0} → (A → List ℕ) → WgslCall → Option A → List ℕ
or_no_overload text c (Some x) = text x
or_no_overload text c None = no_overload_text c

abbrev pub result_text : Option WgslType → List ℕ
result_text (Some t) = codes " -> " ++ wgsl_spelling t
result_text None = []

-- the index of the overload's line, the types of its parameters, and its result: `3 (vec3<f32>, f32) -> vec3<f32>`
abbrev pub resolution_text : WgslResolution → List ℕ
resolution_text r = decimal r.0 ++ codes " (" ++ listed wgsl_spelling r.1 ++ codes ")" ++ result_text r.2

-- the rules refuse an expression, or anything else is answered; no request is answered by out of memory
abbrev pub text_kind : WgslAnswer → TextKind
text_kind (a_type (Err e)) = kinds.Refusal
text_kind (a_value (Err e)) = kinds.Refusal
text_kind (a_type_of c None) = kinds.Refusal
text_kind (a_resolution_of c None) = kinds.Refusal
text_kind (a_form_type (Err e)) = kinds.Refusal
text_kind (a_fit (Err e)) = kinds.Refusal
text_kind out_of_memory = kinds.Refusal
text_kind a = kinds.Answer

-- the text of an answer
abbrev pub answer_text : WgslAnswer → List ℕ
-- `6`
answer_text (a_number w) = or_none decimal w
-- `12 16`, `none 4`
answer_text (a_size s a) = or_none decimal s ++ codes " " ++ or_none decimal a
-- `f32`
answer_text (a_common_type rules c) = or_none (spelling_by rules) c
-- `vec3<f32>`, ``cannot use unary operator `-` on type `bool` ``
answer_text (a_type r) = or_message spelling message r
-- `f32`, `no value`
answer_text (a_value r) = or_message value_text message r
-- `0 16 32`
answer_text (some_offsets o) = or_none spaced o
answer_text (a_layout name ms l) = or_none (layout_text name ms) l
-- `f32`, `no value`, ``no overload of `+` takes (bool, i32)``
answer_text (a_type_of c r) = or_no_overload value_text c r
answer_text (a_resolution_of c r) = or_no_overload resolution_text c r
answer_text (some_lines lines) = lines_text lines
-- `ref<function, f32, read_write>`, ``vec2<f32>` has no component `z` ``
answer_text (a_form_type r) = or_message wgsl_spelling refusal_text r
-- `fits`, ``invalid parameter type, expected `f32`, got `i32` ``
answer_text (a_fit r) = or_message (λ u. codes "fits") refusal_text r
answer_text out_of_memory = []
