-- What is printed of the overloads of a call, and of why they don't take its operands.
use Rattle.std.specs.Prelude.{ℕ, ◌+◌, ◌-◌, ◌^◌, List, [], ◌∷◌, ◌++◌, Option, Some, None, option_map, Bool, true, false, codes, decimal, length, map, min, slice_get, ◌==◌, if◌then◌else◌}
use Rattle.wgsl_syntax.specs.Operator.{binary_text, unary_text}
use Rattle.wgsl_syntax.specs.declared.overload.Overload.{Overload}
use Rattle.wgsl_rules.specs.types.Types.{WgslType, vec}
use Rattle.wgsl_rules.specs.types.Spelling.{wgsl_spelling}
use Rattle.wgsl_rules.specs.standard.Choice.{value_of}
use Rattle.wgsl_rules.specs.standard.Signatures.{signature_lines, signature_text}
use Rattle.wgsl_standard.specs.Operands.{given_type}
use Rattle.wgsl_standard.specs.Callees.{WgslCallee, a_binary, a_constructor, a_function, a_unary, callee_view, overloads_listed}
use Rattle.wgsl_standard.specs.Explained.{or_none}
use Rattle.wgsl_standard.specs.declared.callee.Callee.{Callee}
use Rattle.wgsl_standard.specs.declared.explanation.Note.{Note}
use Rattle.wgsl_standard.specs.declared.operand.Operand.{Operand as CodeOperand}
use Rattle.wgsl_standard.specs.declared.refusal.Mismatch.{Mismatch}
use Rattle.wgsl_standard.specs.declared.refusal.Mismatch.TheVariants.{Count, Argument}
use Rattle.wgsl_standard.specs.declared.signature.Signature.{Signature}

abbrev pub name_of : WgslCallee → List ℕ
name_of (a_unary o) = unary_text o
name_of (a_binary o) = binary_text o
name_of (a_function name) = name
name_of (a_constructor name) = name

abbrev pub callee_text : Callee → List ℕ
callee_text callee = name_of (callee_view callee)

-- `clamp(vecN<T>, vecN<T>, vecN<T>) -> vecN<T>, T: number`
abbrev pub line_of : Signature → List ℕ
line_of s = signature_text (callee_text s.callee) s.has_template s.of_vectors s.overload.now

-- that for scalars, if the overload takes scalars or vectors
abbrev pub first_line_of : Signature → List ℕ
first_line_of s = signature_text (callee_text s.callee) s.has_template false s.overload.now

abbrev pub lines_listed : WgslCallee → Bool → List (List ℕ)
lines_listed callee has_template = signature_lines (name_of callee) has_template (or_none (overloads_listed callee has_template))

-- the lines of all overloads of what is called, those without a template first
abbrev pub texts_listed : WgslCallee → List (List ℕ)
texts_listed callee = lines_listed callee false ++ lines_listed callee true

abbrev pub lines_with : Callee → Bool → List (List ℕ)
lines_with callee has_template = lines_listed (callee_view callee) has_template

abbrev pub overload_texts : Callee → List (List ℕ)
overload_texts callee = texts_listed (callee_view callee)

-- `takes 2 arguments, not 3`, `takes 1 argument, not 2`
abbrev pub count_text : ℕ → ℕ → List ℕ
count_text m n = codes "takes " ++ decimal m ++ (if m == 1 then codes " argument, not " else codes " arguments, not ") ++ decimal n

-- a template is none of them
abbrev pub counts_text : Bool → ℕ → ℕ → List ℕ
counts_text false m n = count_text m n
counts_text true m n = count_text (m - 1) (n - 1)

-- `argument 2`, counted from 1; `the template`
abbrev pub operand_text : Bool → ℕ → List ℕ
operand_text false i = codes "argument " ++ decimal (min (i + 1) (2 ^ 64 - 1))
operand_text true i = if i == 0 then codes "the template" else codes "argument " ++ decimal i

-- why an overload doesn't take that many operands, the template among them, if it has another number of parameters;
-- `argument 2 is f32` if it doesn't take an operand of this type
abbrev pub reason_text : Bool → ℕ → Option WgslType → Mismatch → List ℕ
reason_text has_template count found (Count n) = counts_text has_template n count
reason_text has_template count (Some t) (Argument i) = operand_text has_template i ++ codes " is " ++ wgsl_spelling t
reason_text has_template count None (Argument i) = []

-- `dot(vecN<T>, vecN<T>) -> T, T: number: argument 2 is f32`
abbrev pub note_text : Note → List ℕ
note_text n = line_of n.signature ++ codes ": "
    ++ reason_text n.signature.has_template n.count (option_map given_type n.found) n.mismatch

-- The notes on a call.

abbrev pub types_given : List CodeOperand → List WgslType
types_given xs = map (λ x. given_type x.ty) xs

abbrev pub is_vector : WgslType → Bool
is_vector (vec n t) = true
is_vector t = false

-- an overload that takes scalars or vectors is printed for vectors if the first operand is one
abbrev pub begins_with_vector : List WgslType → Bool
begins_with_vector [] = false
begins_with_vector (t ∷ ts) = is_vector (value_of t)

-- an operand is printed as the type that it loads as
abbrev pub type_refused : Mismatch → List WgslType → Option WgslType
type_refused (Count n) ts = None
type_refused (Argument i) ts = option_map value_of (slice_get ts i)

abbrev pub line_listed : WgslCallee → Bool → List WgslType → Overload × Mismatch → List ℕ
line_listed callee has_template ts n = signature_text (name_of callee) has_template (begins_with_vector ts) n.0 ++ codes ": "
    ++ reason_text has_template (length ts) (type_refused n.1 ts) n.1

-- the line for an overload, and why it doesn't take the operands; the template is the first of them
abbrev pub note_listed : WgslCallee → Option WgslType → List WgslType → Overload × Mismatch → List ℕ
note_listed callee None ts n = line_listed callee false ts n
note_listed callee (Some t) ts n = line_listed callee true (t ∷ ts) n

abbrev pub line_with : Callee → Bool → List WgslType → Overload × Mismatch → List ℕ
line_with callee has_template ts n = line_listed (callee_view callee) has_template ts n

abbrev pub note_line : Callee → Option WgslType → List WgslType → Overload × Mismatch → List ℕ
note_line callee template ts n = note_listed (callee_view callee) template ts n
