-- What an overload stands for: its candidates (WGSL, "Overload Resolution").
use Rattle.std.specs.Prelude.{ℕ, List, [], ◌∷◌, ◌≡◌, Option, Some, None, IsTrue, replicate}
use Rattle.wgsl_syntax.specs.declared.scalar.Scalar.{Scalar}
use Rattle.wgsl_syntax.specs.declared.overload.Kind.{Kind}
use Rattle.wgsl_syntax.specs.declared.overload.Kind.TheVariants.{AnyScalar}
use Rattle.wgsl_syntax.specs.declared.overload.Component.{Component}
use Rattle.wgsl_syntax.specs.declared.overload.Component.TheVariants.{T, U, V, W, The}
use Rattle.wgsl_syntax.specs.declared.overload.Count.{Count}
use Rattle.wgsl_syntax.specs.declared.overload.Count.TheVariants.{N, M, K, Exactly}
use Rattle.wgsl_syntax.specs.declared.overload.Shape.{Shape}
use Rattle.wgsl_syntax.specs.declared.overload.Shape.TheVariants as shapes
use Rattle.wgsl_syntax.specs.declared.overload.Pattern.{Pattern}
use Rattle.wgsl_syntax.specs.declared.overload.Pattern.TheVariants as patterns
use Rattle.wgsl_syntax.specs.declared.overload.Returns.{Returns}
use Rattle.wgsl_syntax.specs.declared.overload.Returns.TheVariants.{NoValue, Gives, GivesStruct, GivesExchange, GivesPointee}
use Rattle.wgsl_syntax.specs.declared.overload.Parameters.{Parameters}
use Rattle.wgsl_syntax.specs.declared.overload.Parameters.TheVariants as ps
use Rattle.wgsl_syntax.specs.declared.overload.Overload.{Overload}
use Rattle.wgsl_syntax.specs.declared.overload.Overload.TheVariants.{Plain, WithT, WithTAndU, WithThree, WithFour}
use Rattle.wgsl_syntax.specs.declared.overload.Dimensions.{Dimensions}
use Rattle.wgsl_syntax.specs.declared.overload.Dimensions.TheVariants.{Single, Vector, Matrix}
use Rattle.wgsl_syntax.specs.declared.overload.Substitution.{Substitution}
use Rattle.wgsl_rules.specs.types.Types.{WgslType, scalar, texture, sampler}
use Rattle.wgsl_rules.specs.types.Dimensions.{with_dimensions}
use Rattle.wgsl_rules.specs.types.Inner.{inner_of}
use Rattle.wgsl_rules.specs.types.ResultStructs.{result_struct}
use Rattle.wgsl_rules.specs.calls.ResultTypes.{exchange_struct}
use Rattle.wgsl_rules.specs.standard.LetterKinds.{is_of_kind}
use Rattle.wgsl_rules.specs.standard.Resources.{letter_of, precision_of}

-- the type with these dimensions and components
abbrev pub type_with : Dimensions → Scalar → WgslType
type_with d s = with_dimensions d (scalar s)

-- what a letter stands for in a substitution

abbrev pub count_in : Substitution → Count → ℕ
count_in i N = i.n
count_in i M = i.m
count_in i K = i.k
count_in i (Exactly n) = n

abbrev pub one_or_vector : Option ℕ → Dimensions
one_or_vector None = Single
one_or_vector (Some n) = Vector n

abbrev pub dimensions_in : Substitution → Shape → Dimensions
dimensions_in i shapes.One = Single
dimensions_in i (shapes.Vector n) = Vector (count_in i n)
dimensions_in i (shapes.Matrix c r) = Matrix (count_in i c) (count_in i r)
dimensions_in i shapes.OneOrVector = one_or_vector i.width

abbrev pub component_in : Substitution → Component → Scalar
component_in i T = i.t
component_in i U = i.u
component_in i V = i.v
component_in i W = i.w
component_in i (The s) = s

-- A texture or a pointer says nothing of the letter T, or what T stands for. It may also not be of the set.
abbrev pub Names : Option (Option Scalar) → Scalar → Type 0
Names None s = ⊥
Names (Some None) s = Unit {0}
Names (Some (Some g)) s = g ≡ s

-- the type of a parameter or a result, if the letters say what it is; a texture or a pointer may be any one of a set
abbrev pub type_in : Substitution → Pattern → Option WgslType
type_in i (patterns.Value s e) = Some (type_with (dimensions_in i s) (component_in i e))
type_in i (patterns.Sampler s) = Some (sampler s)
type_in i (patterns.Texture t) = Some (texture t)
type_in i (patterns.Resource r) = None

-- A type may stand for a parameter in a substitution.
abbrev pub IsParameter : Substitution → Pattern → WgslType → Type 0
IsParameter i (patterns.Value s e) u = u ≡ type_with (dimensions_in i s) (component_in i e)
IsParameter i (patterns.Sampler s) u = u ≡ sampler s
IsParameter i (patterns.Texture t) u = u ≡ texture t
IsParameter i (patterns.Resource r) u = Names (letter_of r u) i.t

abbrev pub AreParameters : Substitution → List Pattern → List WgslType → Type 0
AreParameters i [] [] = Unit {0}
AreParameters i (p ∷ ps) (u ∷ us) = IsParameter i p u × AreParameters i ps us
AreParameters i ps us = ⊥

-- the type to which the first parameter points
abbrev pub pointee_of : List WgslType → Option WgslType
pointee_of [] = None
pointee_of (u ∷ us) = Some (inner_of u)

-- the type of the result, or None if there is no value
abbrev pub result_in : Substitution → List WgslType → Returns → Option WgslType
result_in i us NoValue = None
result_in i us (Gives p) = type_in i p
result_in i us (GivesStruct f s) = Some (result_struct f s (precision_of i.t))
result_in i us GivesExchange = Some (exchange_struct (scalar i.t))
result_in i us GivesPointee = pointee_of us

-- the parts of an overload

abbrev pub parameters_of : Overload → Parameters
parameters_of (Plain p r) = p
parameters_of (WithT p r t) = p
parameters_of (WithTAndU p r t u) = p
parameters_of (WithThree p r t u v) = p
parameters_of (WithFour p r t u v w) = p

abbrev pub result_of : Overload → Returns
result_of (Plain p r) = r
result_of (WithT p r t) = r
result_of (WithTAndU p r t u) = r
result_of (WithThree p r t u v) = r
result_of (WithFour p r t u v w) = r

-- the kinds of the letters T, U, V and W for scalars; a letter that an overload does not have may be any scalar
abbrev pub kinds_of : Overload → Kind × Kind × Kind × Kind
kinds_of (Plain p r) = (AnyScalar, AnyScalar, AnyScalar, AnyScalar)
kinds_of (WithT p r t) = (t, AnyScalar, AnyScalar, AnyScalar)
kinds_of (WithTAndU p r t u) = (t, u, AnyScalar, AnyScalar)
kinds_of (WithThree p r t u v) = (t, u, v, AnyScalar)
kinds_of (WithFour p r t u v w) = (t, u, v, w)

abbrev pub in_order : Parameters → List Pattern
in_order ps.Nothing = []
in_order (ps.One a) = a ∷ []
in_order (ps.Two a b) = a ∷ b ∷ []
in_order (ps.Three a b c) = a ∷ b ∷ c ∷ []
in_order (ps.Four a b c d) = a ∷ b ∷ c ∷ d ∷ []
in_order (ps.Five a b c d e) = a ∷ b ∷ c ∷ d ∷ e ∷ []
in_order (ps.Six a b c d e f) = a ∷ b ∷ c ∷ d ∷ e ∷ f ∷ []
in_order (ps.Seven a b c d e f g) = a ∷ b ∷ c ∷ d ∷ e ∷ f ∷ g ∷ []
in_order (ps.Times n a) = replicate n a
in_order (ps.AndTimes a n b) = a ∷ replicate n b

abbrev pub patterns_of : Overload → List Pattern
patterns_of o = in_order (parameters_of o)

-- The letters for scalars stand for scalars of their kinds.
pub record IsSubstitution (o : Overload) (i : Substitution) : Type 0 where
  pub t : IsTrue (is_of_kind (kinds_of o).0 i.t)
  pub u : IsTrue (is_of_kind (kinds_of o).1 i.u)
  pub v : IsTrue (is_of_kind (kinds_of o).2 i.v)
  pub w : IsTrue (is_of_kind (kinds_of o).3 i.w)

-- A candidate of an overload: parameters us, and the result r, or None.
pub record IsCandidateOf (o : Overload) (us : List WgslType) (r : Option WgslType) : Type 0 where
  pub substitution : Substitution
  pub admitted : IsSubstitution o substitution
  pub parameters : AreParameters substitution (patterns_of o) us
  pub result : r ≡ result_in substitution us (result_of o)
