-- Laws of conversion, of common types and of overload resolution, which follow from the definitions.
use Rattle.std.specs.Prelude.{ℕ, List, [], ◌≡◌, ◌≢◌, ◌+◌, ◌≤◌, ◌⊎◌, ◌↔◌, Option, Some, None}
use Rattle.wgsl_rules.specs.types.Types.{WgslType}
use Rattle.wgsl_rules.specs.conversion.Conversion.{Converts, ConvertsTo}
use Rattle.wgsl_rules.specs.operators.Candidates.{Name, operator, IsCandidate}
use Rattle.wgsl_rules.specs.operators.Choice.{Takes}
use Rattle.wgsl_rules.specs.conversion.Common.{IsCommon, IsLeftCommon}
use Rattle.wgsl_rules.specs.Headline.{IsLeastCandidate, Receives, IsLeastCommon}

-- For value types, conversion is a partial order.
pub record ConversionOrder (a b c : WgslType) : Type 0 where
  pub reflexive : ConvertsTo a a
  pub antisymmetric : ConvertsTo a b → ConvertsTo b a → a ≡ b
  pub transitive : ConvertsTo a b → ConvertsTo b c → ConvertsTo a c

-- Ranks add, and only equal types have rank 0.
pub record RanksAdd (a b c : WgslType) : Type 0 where
  pub sum : (v w : ℕ) → Converts a b v → Converts b c w → Converts a c (v + w)
  pub one_rank : (v w : ℕ) → Converts a b v → Converts a b w → v ≡ w
  pub zero : Converts a b 0 ↔ a ≡ b

-- Two types that convert to the same type are comparable.
abbrev pub TargetsComparable : WgslType → WgslType → WgslType → Type 0
TargetsComparable a b c = ConvertsTo a c → ConvertsTo b c → ConvertsTo a b ⊎ ConvertsTo b a

-- A type converts to at most one type with a given rank, and no rank is above 9.
pub record RankNamesTarget (a b c : WgslType) : Type 0 where
  pub same : (w : ℕ) → Converts a b w → Converts a c w → b ≡ c
  pub small : (w : ℕ) → Converts a b w → w ≤ 9

-- Two lists have the same common type from left to right.
abbrev pub CommonAnyOrder : List WgslType → List WgslType → Type 0
CommonAnyOrder ts us = (r : Option WgslType) → IsLeftCommon ts r ↔ IsLeftCommon us r

-- The common type from left to right is unique and is the least. If a non-empty list has none, no type receives it.
pub record LeftCommonIsLeast (ts : List WgslType) : Type 0 where
  pub one : (r s : Option WgslType) → IsLeftCommon ts r → IsLeftCommon ts s → r ≡ s
  pub some : (u : WgslType) → IsLeftCommon ts (Some u) → IsLeastCommon u ts
  pub none : ts ≢ [] → IsLeftCommon ts None → (v : WgslType) → ¬ Receives v ts
  pub least_is_left : ts ≢ [] → (u : WgslType) → IsLeastCommon u ts → IsLeftCommon ts (Some u)

abbrev pub CommonSymmetric : WgslType → WgslType → Type 0
CommonSymmetric a b = (r : Option WgslType) → IsCommon a b r ↔ IsCommon b a r

-- If a candidate takes the operands, there is exactly one least candidate.
pub record OneChoice (n : Name) (ts : List WgslType) : Type 0 where
  pub exists : (us : List WgslType) (r : WgslType) → IsCandidate n us r → Takes us ts →
      (vs : List WgslType) × (s : WgslType) × IsLeastCandidate n ts vs s
  pub one : (us vs : List WgslType) (r s : WgslType) → IsLeastCandidate n ts us r → IsLeastCandidate n ts vs s →
      (us ≡ vs) × (r ≡ s)

-- the built-in functions that have candidates
abbrev pub IsCallName : Name → Type 0
IsCallName (operator o) = ⊥
IsCallName n = Unit {0}
