-- How a resolved call is seen, and what calls resolve to.
use Rattle.std.specs.Prelude.{ℕ, List, ◌∷◌, ◌≡◌, Option, Some, None, Bool, true, false, IsTrue, map, option_map, slice_get}
use Rattle.wgsl_rules.specs.types.Types.{WgslType}
use Rattle.wgsl_syntax.specs.declared.overload.Overload.{Overload}
use Rattle.wgsl_rules.specs.standard.Overloads.{patterns_of}
use Rattle.wgsl_rules.specs.standard.Choice.{Operand, IsPreferred}
use Rattle.wgsl_rules.specs.standard.Answers.{is_template, template_operand, IsResolution}
use Rattle.wgsl_rules.specs.standard.Signatures.{signature_text}
use Rattle.wgsl_core.specs.View.{view}
use Rattle.wgsl_standard.specs.Callees.{WgslCallee, overloads_listed}
use Rattle.wgsl_standard.specs.Explained.{or_none}
use Rattle.wgsl_standard.specs.Lines.{are_vectors, line_of_candidate, lines_named}
use Rattle.wgsl_standard.specs.Texts.{name_of}
use Rattle.wgsl_standard.specs.declared.resolved.ResolvedCall.{ResolvedCall}

-- the index of the overload's line, the types of its parameters, and its result
abbrev pub resolved_view : ResolvedCall → ℕ × List WgslType × Option WgslType
resolved_view r = (r.index, map view r.parameters.items, option_map view r.result)

-- the line of the overload in place of its index in the table
abbrev pub with_line : WgslCallee → Bool → ℕ × List WgslType × Option WgslType → ℕ × List WgslType × Option WgslType
with_line callee has_template c = (line_of_candidate callee has_template c.0 c.1, c.1, c.2)

-- what a call resolves to by the overloads without a template, or by those with one; a name without overloads to nothing
abbrev pub IsNamedResolution : WgslCallee → Bool → List Operand → Option (ℕ × List WgslType × Option WgslType) → Type 0
IsNamedResolution callee has_template xs r = (c : Option (ℕ × List WgslType × Option WgslType))
    × IsResolution (or_none (overloads_listed callee has_template)) xs c × (r ≡ option_map (with_line callee has_template) c)

-- the same with a template, which is the first operand
pub record IsTemplateResolution (callee : WgslCallee) (t : WgslType) (xs : List Operand) (r : Option (ℕ × List WgslType × Option WgslType)) : Type 0 where
  pub named : IsTrue (is_template t) → IsNamedResolution callee true (template_operand t ∷ xs) r
  pub refused : (¬ IsTrue (is_template t)) → r ≡ None

-- what a call resolves to
abbrev pub IsCallResolution : WgslCallee → Option WgslType → List Operand → Option (ℕ × List WgslType × Option WgslType) → Type 0
IsCallResolution callee None xs r = IsNamedResolution callee false xs r
IsCallResolution callee (Some t) xs r = IsTemplateResolution callee t xs r

-- The line at the index that a call resolves to is the text of the overload that is chosen, for vectors if its parameters are.
abbrev pub IndexNamesLine : Type 0
IndexNamesLine = (callee : WgslCallee) (has_template : Bool) (xs : List Operand) (c : ℕ × List WgslType × Option WgslType) → IsNamedResolution callee has_template xs (Some c) →
    (at : ℕ) × (o : Overload) × (slice_get (or_none (overloads_listed callee has_template)) at ≡ Some o)
    × IsPreferred (or_none (overloads_listed callee has_template)) xs at c.1 c.2
    × (slice_get (lines_named (name_of callee)) c.0 ≡ Some (signature_text (name_of callee) has_template (are_vectors (patterns_of o) c.1) o))
