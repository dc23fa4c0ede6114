-- Calls as WGSL's own overloads take them, and what these answer.
use Rattle.std.specs.Prelude.{ℕ, List, [], ◌∷◌, Option, Some, None, map, ◌≡◌, false, true, MatchOption, MatchBool}
use Rattle.wgsl_requests.specs.Prelude.{WgslType, Parameter, of_type, Operand, value_of, WgslCallee, types_of, overloads_listed, IsCallResolution, note_listed}
use Rattle.wgsl_syntax.specs.declared.overload.Overload.{Overload}
use Rattle.wgsl_rules.specs.standard.Answers.{is_template, template_operand, IsCallAnswer}
use Rattle.wgsl_standard.specs.Explained.{AreNotes, or_none}
use Rattle.wgsl_standard.specs.declared.refusal.Mismatch.{Mismatch}

-- a call: its template, and its operands as they are written, before a reference is loaded
pub record WgslCall : Type 0 where
  pub callee : WgslCallee
  pub template : Option (List Parameter)
  pub operands : List Operand

-- what a call resolves to: the index of the overload's line, the types of its parameters, and its result
abbrev pub WgslResolution : Type 0
WgslResolution = ℕ × List WgslType × Option WgslType

-- the operands of a call, loaded
abbrev pub loaded : List Operand → List Operand
loaded xs = map (λ x. record { of_type = value_of x.of_type; is_constant = x.is_constant }) xs

-- A template is one type; None if it is something else.
abbrev pub template_type : Option (List Parameter) → Option (Option WgslType)
template_type None = Some None
template_type (Some (of_type t ∷ [])) = Some (Some t)
template_type (Some ps) = None

-- the answer of a call with this template; no overload takes any other than one type
abbrev pub WithTemplate : {A : Type 0} → (Option WgslType → Option A → Type 0) → Option (List Parameter) → Option A → Type 0
WithTemplate P template r = MatchOption (template_type template) (r ≡ None) (λ t. P t r)

-- the type of a call, or no value; None if no overload takes the operands
abbrev pub IsTypeOf : WgslCall → Option (Option WgslType) → Type 0
IsTypeOf c r = WithTemplate (λ t r. IsCallAnswer (overloads_listed c.callee false) (overloads_listed c.callee true)
    t (loaded c.operands) r) c.template r

-- what a call resolves to; None if no overload takes the operands
abbrev pub IsResolutionOf : WgslCall → Option WgslResolution → Type 0
IsResolutionOf c r = WithTemplate (λ t r. IsCallResolution c.callee t (loaded c.operands) r) c.template r

-- the notes on a call with this template; there is none if it is no template
abbrev pub AreNotesWith : WgslCallee → Option WgslType → List Operand → List (Overload × Mismatch) → Type 0
AreNotesWith callee None xs ns = AreNotes xs (or_none (overloads_listed callee false)) ns
AreNotesWith callee (Some t) xs ns =
    MatchBool (is_template t) (AreNotes (template_operand t ∷ xs) (or_none (overloads_listed callee true)) ns) (ns ≡ [])

-- a line for each overload that doesn't take the operands, the nearest first
abbrev pub IsExplanationOf : WgslCall → List (List ℕ) → Type 0
IsExplanationOf c lines = MatchOption (template_type c.template) (lines ≡ []) (λ t. (ns : List (Overload × Mismatch))
    × AreNotesWith c.callee t (loaded c.operands) ns × (lines ≡ map (note_listed c.callee t (types_of c.operands)) ns))
