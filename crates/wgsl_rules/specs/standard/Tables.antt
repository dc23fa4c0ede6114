-- What a table of overloads must fulfil so that the first overload that takes operands is the preferred one.
use Rattle.std.specs.Prelude.{ℕ, List, [], ◌∷◌, ◌≡◌, Option}
use Rattle.wgsl_syntax.specs.declared.overload.Overload.{Overload}
use Rattle.wgsl_rules.specs.types.Types.{WgslType}
use Rattle.wgsl_rules.specs.operators.Choice.{IsNowhereMore, IsSomewhereLess}
use Rattle.wgsl_rules.specs.standard.Overloads.{IsCandidateOf}
use Rattle.wgsl_rules.specs.standard.Choice.{Operand, TakesOperands}

-- Candidates with the same parameters have the same result.
abbrev pub HasOneResult : Overload → Type 0
HasOneResult o = (us : List WgslType) (r s : Option WgslType) → IsCandidateOf o us r → IsCandidateOf o us s → r ≡ s

-- Where both overloads take operands, the first is preferred.
abbrev pub IsPreferredTo : Overload → Overload → Type 0
IsPreferredTo o p = (xs : List Operand) (us vs : List WgslType) (r s : Option WgslType) (ranks ws : List ℕ) → IsCandidateOf o us r → TakesOperands us xs ranks →
    IsCandidateOf p vs s → TakesOperands vs xs ws → IsNowhereMore ranks ws × IsSomewhereLess ranks ws

abbrev pub IsPreferredToAll : Overload → List Overload → Type 0
IsPreferredToAll o [] = Unit {0}
IsPreferredToAll o (p ∷ ps) = IsPreferredTo o p × IsPreferredToAll o ps

abbrev pub AreInOrder : List Overload → Type 0
AreInOrder [] = Unit {0}
AreInOrder (o ∷ os) = HasOneResult o × IsPreferredToAll o os × AreInOrder os

-- No call is ambiguous: parameters determine results, and each overload is preferred to those after it.
pub record IsUnambiguous (os : List Overload) : Type 0 where
  pub in_order : AreInOrder os
