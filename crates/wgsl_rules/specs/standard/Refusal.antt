-- Which operand is refused: the first that no overload takes after the operands before it.
use Rattle.std.specs.Prelude.{ℕ, ◌+◌, ◌<◌, List, ◌≡◌, Option, Some, None, length, take, slice_get}
use Rattle.wgsl_syntax.specs.declared.overload.Overload.{Overload}
use Rattle.wgsl_syntax.specs.declared.overload.Substitution.{Substitution}
use Rattle.wgsl_rules.specs.types.Types.{WgslType}
use Rattle.wgsl_rules.specs.standard.Overloads.{AreParameters, IsSubstitution, patterns_of}
use Rattle.wgsl_rules.specs.standard.Choice.{Operand, TakesOperands}

-- The first parameters of some substitution of the overload take the operands.
pub record TakesFirst (o : Overload) (xs : List Operand) : Type 0 where
  pub substitution : Substitution
  pub admitted : IsSubstitution o substitution
  pub types : List WgslType
  pub parameters : AreParameters substitution (take (length xs) (patterns_of o)) types
  pub ranks : List ℕ
  pub takes : TakesOperands types xs ranks

-- Those of some overload do.
abbrev pub SomeTakesFirst : List Overload → List Operand → Type 0
SomeTakesFirst os xs = (at : ℕ) × (o : Overload) × (slice_get os at ≡ Some o) × TakesFirst o xs

-- The index of the first operand so that the first parameters of no overload take the operands up to it; None if there is
-- no such operand.
abbrev pub IsRefusedAt : List Overload → List Operand → Option ℕ → Type 0
IsRefusedAt os xs (Some n) = (n < length xs) × (¬ SomeTakesFirst os (take (n + 1) xs)) × ((m : ℕ) → m < n → SomeTakesFirst os (take (m + 1) xs))
IsRefusedAt os xs None = (m : ℕ) → m < length xs → SomeTakesFirst os (take (m + 1) xs)
