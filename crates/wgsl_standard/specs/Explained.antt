-- What the notes on a call say.
use Rattle.std.specs.Prelude.{ℕ, List, [], ◌∷◌, ◌≡◌, Option, Some, None, Bool, true, false, length}
use Rattle.std.specs.List.{insert, prefix_len}
use Rattle.wgsl_syntax.specs.declared.overload.Overload.{Overload}
use Rattle.wgsl_rules.specs.types.Types.{WgslType}
use Rattle.wgsl_rules.specs.standard.Answers.{is_template, template_operand}
use Rattle.wgsl_rules.specs.standard.Choice.{Operand}
use Rattle.wgsl_standard.specs.Callees.{overloads_of}
use Rattle.wgsl_standard.specs.Mismatches.{IsMismatch, is_nearer}
use Rattle.wgsl_standard.specs.declared.callee.Callee.{Callee}
use Rattle.wgsl_standard.specs.declared.explanation.Note.{Note}
use Rattle.wgsl_standard.specs.declared.refusal.Mismatch.{Mismatch}

-- an overload, and why it doesn't take the operands
abbrev pub note_view : Note → Overload × Mismatch
note_view n = (n.signature.overload.now, n.mismatch)

-- one more note, in front of the first that isn't nearer
abbrev pub with_note : ℕ → Overload × Mismatch → List (Overload × Mismatch) → List (Overload × Mismatch)
with_note given n ns = insert ns (prefix_len (λ m. is_nearer given m.1 n.1) ns) n

-- There is a note for each overload that doesn't take the operands, and none for one that does. The nearest come first; those
-- that are as near are in the order of the overloads.
pub data AreNotes (xs : List Operand) : List Overload → List (Overload × Mismatch) → Type 0 where
  no_overloads : AreNotes xs [] []
  taken : {o : Overload} {os : List Overload} {ns : List (Overload × Mismatch)} →
      IsMismatch o xs None → AreNotes xs os ns → AreNotes xs (o ∷ os) ns
  refused : {o : Overload} {os : List Overload} {ns : List (Overload × Mismatch)} (m : Mismatch) →
      IsMismatch o xs (Some m) → AreNotes xs os ns → AreNotes xs (o ∷ os) (with_note (length xs) (o, m) ns)

abbrev pub or_none : Option (List Overload) → List Overload
or_none None = []
or_none (Some os) = os

-- the notes on a call with a template, which is or isn't one
abbrev pub IsExplainedWith : Callee → WgslType → List Operand → Bool → List (Overload × Mismatch) → Type 0
IsExplainedWith callee t xs true ns = AreNotes (template_operand t ∷ xs) (or_none (overloads_of callee true)) ns
IsExplainedWith callee t xs false ns = ns ≡ []

-- the notes on a call; a name that isn't listed has none
abbrev pub IsExplained : Callee → Option WgslType → List Operand → List (Overload × Mismatch) → Type 0
IsExplained callee None xs ns = AreNotes xs (or_none (overloads_of callee false)) ns
IsExplained callee (Some t) xs ns = IsExplainedWith callee t xs (is_template t) ns
