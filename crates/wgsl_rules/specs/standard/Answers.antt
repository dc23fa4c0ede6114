-- What calls return by WGSL's own overloads (WGSL, "Overload Resolution").
use Rattle.std.specs.Prelude.{ℕ, List, ◌∷◌, ◌≡◌, ◌↔◌, Option, Some, None, Bool, true, false, not, IsTrue}
use Rattle.wgsl_syntax.specs.declared.overload.Overload.{Overload}
use Rattle.wgsl_rules.specs.types.Types.{WgslType, reference}
use Rattle.wgsl_rules.specs.conversion.Concrete.{is_abstract}
use Rattle.wgsl_rules.specs.standard.Choice.{Operand, IsPreferred, NoneTakes}

-- A call returns the result of the preferred candidate, a type or no value. There is no answer exactly if no candidate
-- takes the operands.
pub record IsStandardAnswer (os : List Overload) (xs : List Operand) (r : Option (Option WgslType)) : Type 0 where
  pub least : (t : Option WgslType) → (r ≡ Some t) ↔ ((at : ℕ) × (us : List WgslType) × IsPreferred os xs at us t)
  pub none : (r ≡ None) ↔ NoneTakes os xs

-- The same for the overloads of a name. A name without overloads has no answer.
abbrev pub IsNamedAnswer : Option (List Overload) → List Operand → Option (Option WgslType) → Type 0
IsNamedAnswer (Some os) xs r = IsStandardAnswer os xs r
IsNamedAnswer None xs r = r ≡ None

-- A template parameter counts as a first operand: a const-expression. It must be concrete and no reference, so that it
-- converts to itself alone.

abbrev pub is_template : WgslType → Bool
is_template (reference s t m) = false
is_template t = not (is_abstract t)

abbrev pub template_operand : WgslType → Operand
template_operand t = record { of_type = t; is_constant = true }

pub record IsTemplateAnswer (os : Option (List Overload)) (t : WgslType) (xs : List Operand) (r : Option (Option WgslType)) : Type 0 where
  pub named : IsTrue (is_template t) → IsNamedAnswer os (template_operand t ∷ xs) r
  pub refused : (¬ IsTrue (is_template t)) → r ≡ None

-- the answer of a call: without a template by the first overloads, with one by the second
abbrev pub IsCallAnswer : Option (List Overload) → Option (List Overload) → Option WgslType → List Operand → Option (Option WgslType) → Type 0
IsCallAnswer plain templated None xs r = IsNamedAnswer plain xs r
IsCallAnswer plain templated (Some t) xs r = IsTemplateAnswer templated t xs r

-- What a call resolves to: the index of the overload, the types of its parameters, and its result.
abbrev pub IsResolution : List Overload → List Operand → Option (ℕ × List WgslType × Option WgslType) → Type 0
IsResolution os xs (Some c) = IsPreferred os xs c.0 c.1 c.2
IsResolution os xs None = NoneTakes os xs
