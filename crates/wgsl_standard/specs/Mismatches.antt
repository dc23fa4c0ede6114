-- Why an overload doesn't take operands.
use Rattle.std.specs.Prelude.{ℕ, Bool, false, true, List, [], ◌∷◌, ◌≡◌, ◌≢◌, Option, Some, None, length, nat_lt}
use Rattle.std.specs.Int.{abs_diff}
use Rattle.wgsl_syntax.specs.declared.overload.Overload.{Overload}
use Rattle.wgsl_rules.specs.standard.Overloads.{patterns_of}
use Rattle.wgsl_rules.specs.standard.Choice.{Operand}
use Rattle.wgsl_rules.specs.standard.Refusal.{IsRefusedAt}
use Rattle.wgsl_standard.specs.declared.refusal.Mismatch.{Mismatch}
use Rattle.wgsl_standard.specs.declared.refusal.Mismatch.TheVariants.{Count, Argument}

-- The overload has another number of parameters than there are operands; or the operand at the index is the first that
-- it doesn't take after those before it; or it takes them all.
abbrev pub IsMismatch : Overload → List Operand → Option Mismatch → Type 0
IsMismatch o xs (Some (Count n)) = (length (patterns_of o) ≡ n) × (n ≢ length xs)
IsMismatch o xs (Some (Argument n)) = (length (patterns_of o) ≡ length xs) × IsRefusedAt (o ∷ []) xs (Some n)
IsMismatch o xs None = (length (patterns_of o) ≡ length xs) × IsRefusedAt (o ∷ []) xs None

-- Whether the first overload is nearer to taking that many operands than the second: fewer are too many or missing, or it
-- takes more of them before one that it doesn't take.
abbrev pub is_nearer : ℕ → Mismatch → Mismatch → Bool
is_nearer given (Count m) (Count n) = nat_lt (abs_diff m given) (abs_diff n given)
is_nearer given (Count m) (Argument j) = false
is_nearer given (Argument i) (Count n) = true
is_nearer given (Argument i) (Argument j) = nat_lt j i
