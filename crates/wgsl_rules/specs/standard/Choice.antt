-- Which candidate is chosen for operands (WGSL, "Overload Resolution").
use Rattle.std.specs.Prelude.{ℕ, List, [], ◌∷◌, ◌≡◌, ◌⊎◌, Option, Some, None, Bool, IsTrue, map, slice_get}
use Rattle.wgsl_syntax.specs.declared.address.AccessMode.TheVariants.{Read, ReadWrite}
use Rattle.wgsl_syntax.specs.declared.overload.Pattern.{Pattern}
use Rattle.wgsl_syntax.specs.declared.overload.Pattern.TheVariants as patterns
use Rattle.wgsl_syntax.specs.declared.overload.Overload.{Overload}
use Rattle.wgsl_syntax.specs.declared.overload.Substitution.{Substitution}
use Rattle.wgsl_rules.specs.types.Types.{WgslType, reference, texture, sampler}
use Rattle.wgsl_rules.specs.conversion.Conversion.{IsValueType}
use Rattle.wgsl_rules.specs.conversion.Concrete.{IsAbstract}
use Rattle.wgsl_rules.specs.operators.Choice.{HasRanks, IsNowhereMore, IsSomewhereLess}
use Rattle.wgsl_rules.specs.standard.Overloads.{type_with, dimensions_in, component_in, result_in, patterns_of, result_of, IsCandidateOf}

-- an operand: its type, and whether it is a const-expression
pub record Operand : Type 0 where
  pub of_type : WgslType
  pub is_constant : Bool

-- the type of an operand: a reference that can be read is loaded first; any other stays, and is no value
abbrev pub value_of : WgslType → WgslType
value_of (reference s t Read) = t
value_of (reference s t ReadWrite) = t
value_of t = t

abbrev pub AreValues : List Operand → Type 0
AreValues [] = Unit {0}
AreValues (x ∷ xs) = IsValueType x.of_type × AreValues xs

abbrev pub AreConstant : List Operand → Type 0
AreConstant [] = Unit {0}
AreConstant (x ∷ xs) = IsTrue x.is_constant × AreConstant xs

abbrev pub AreConcrete : List WgslType → Type 0
AreConcrete [] = Unit {0}
AreConcrete (t ∷ ts) = (¬ IsAbstract t) × AreConcrete ts

abbrev pub types_of : List Operand → List WgslType
types_of xs = map (λ x. x.of_type) xs

-- The operands are values and convert to the parameters with these ranks. A parameter of an abstract type is left out
-- unless all operands are const-expressions.
pub record TakesOperands (us : List WgslType) (xs : List Operand) (ranks : List ℕ) : Type 0 where
  pub values : AreValues xs
  pub converts : HasRanks (types_of xs) us ranks
  pub constant : AreConstant xs ⊎ AreConcrete us

-- a candidate of the overload at this index
pub record IsCandidateAt (os : List Overload) (at : ℕ) (us : List WgslType) (r : Option WgslType) : Type 0 where
  pub overload : Overload
  pub here : slice_get os at ≡ Some overload
  pub candidate : IsCandidateOf overload us r

-- The candidate preferred to all others: any other that takes the operands has no lower rank, and a higher one in some place.
pub record IsPreferred (os : List Overload) (xs : List Operand) (at : ℕ) (us : List WgslType) (r : Option WgslType) : Type 0 where
  pub candidate : IsCandidateAt os at us r
  pub ranks : List ℕ
  pub takes : TakesOperands us xs ranks
  pub least : (j : ℕ) (vs : List WgslType) (s : Option WgslType) (ws : List ℕ) → IsCandidateAt os j vs s → TakesOperands vs xs ws →
      (j ≡ at) × (vs ≡ us) × (s ≡ r) ⊎ IsNowhereMore ranks ws × IsSomewhereLess ranks ws

abbrev pub NoneTakes : List Overload → List Operand → Type 0
NoneTakes os xs = (at : ℕ) (us : List WgslType) (r : Option WgslType) (ranks : List ℕ) → IsCandidateAt os at us r → ¬ TakesOperands us xs ranks

-- the types of the parameters that take operands, where textures and pointers are those of the operands
abbrev pub parameter_for : Substitution → Pattern → WgslType → WgslType
parameter_for i (patterns.Value s e) t = type_with (dimensions_in i s) (component_in i e)
parameter_for i (patterns.Sampler s) t = sampler s
parameter_for i (patterns.Texture x) t = texture x
parameter_for i (patterns.Resource r) t = t

abbrev pub parameters_for : Substitution → List Pattern → List Operand → List WgslType
parameters_for i (p ∷ ps) (x ∷ xs) = parameter_for i p x.of_type ∷ parameters_for i ps xs
parameters_for i ps xs = []

abbrev pub result_for : Substitution → Overload → List Operand → Option WgslType
result_for i o xs = result_in i (parameters_for i (patterns_of o) xs) (result_of o)

-- The answer for operands: the index of an overload and what its letters stand for, so that its candidate there is
-- preferred to all others; or none, and then no candidate takes the operands.
abbrev pub IsChosen : List Overload → List Operand → Option (ℕ × Substitution) → Type 0
IsChosen os xs (Some p) = (o : Overload) × (slice_get os p.0 ≡ Some o) × IsPreferred os xs p.0 (parameters_for p.1 (patterns_of o) xs) (result_for p.1 o xs)
IsChosen os xs None = NoneTakes os xs

-- At most one candidate is preferred.
abbrev pub ChoiceIsUnique : Type 0
ChoiceIsUnique = (os : List Overload) (xs : List Operand) (k l : ℕ) (us vs : List WgslType) (r s : Option WgslType) →
    IsPreferred os xs k us r → IsPreferred os xs l vs s → (k ≡ l) × (us ≡ vs) × (r ≡ s)
