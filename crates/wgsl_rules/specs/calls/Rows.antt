-- What a row of the table of built-in functions takes, and what it returns (WGSL, "Built-in Functions").
use Rattle.std.specs.Prelude.{List, [], ◌∷◌, ◌≡◌, Option, Some, None, IsSome, Result, Ok, Err, slice_get, option_map, option_and_then}
use Rattle.wgsl_syntax.specs.declared.result_struct.ResultFunction.{ResultFunction}
use Rattle.wgsl_syntax.specs.declared.texture.TextureType.{TextureType}
use Rattle.wgsl_syntax.specs.declared.call.Shape.{Shape}
use Rattle.wgsl_syntax.specs.declared.call.Arguments.{Arguments}
use Rattle.wgsl_syntax.specs.declared.call.Arguments.TheVariants.{Nothing, One, Two, Three, Four}
use Rattle.wgsl_syntax.specs.declared.call.Row.{Row}
use Rattle.wgsl_syntax.specs.declared.call.Row.TheVariants.{Takes, TakesAtLeast, TakesWhere, TakesWithTemplate}
use Rattle.wgsl_syntax.specs.declared.call.Condition.{Condition}
use Rattle.wgsl_syntax.specs.declared.call.Source.{Source}
use Rattle.wgsl_syntax.specs.declared.call.ReturnType.{ReturnType}
use Rattle.wgsl_syntax.specs.declared.call.Condition.TheVariants.{EqualLengths, SameAbstractness}
use Rattle.wgsl_syntax.specs.declared.call.Source.TheVariants.{Argument, Inner, InnerOfInner, Common, InnerOfCommon, CommonOfThree, CommonOfInner, The, SampledAs, Channel}
use Rattle.wgsl_syntax.specs.declared.call.ReturnType.TheVariants.{Of, Concrete, AsLong, InVector, Transposed, TextureSize, ResultOf, ExchangeResult, RayIntersection, HitPositions, NoValue, ByTemplate}
use Rattle.wgsl_syntax.specs.TextureKind.{dimensions, sampled_type, sampled_scalar, texture_channel}
use Rattle.wgsl_rules.specs.types.Types.{vec_of, WgslType, scalar, within, texture, vec}
use Rattle.wgsl_rules.specs.types.Inner.{inner_of}
use Rattle.wgsl_rules.specs.conversion.Common.{IsCommon}
use Rattle.wgsl_rules.specs.conversion.Concrete.{is_abstract, concretized}
use Rattle.wgsl_rules.specs.types.Signatures.{Parameter, Signature}
use Rattle.wgsl_rules.specs.templates.Templates.{IsBitcastTemplate}
use Rattle.wgsl_rules.specs.errors.Refusals.{Refusal, signature}
use Rattle.wgsl_rules.specs.calls.Shapes.{Is}
use Rattle.wgsl_rules.specs.calls.ResultTypes.{IsResultOf, exchange_struct, ray_intersection_struct, hit_positions_type, size_type, transposed_of}

-- what is required of each argument, in order
abbrev pub shapes_of : Arguments → List Shape
shapes_of Nothing = []
shapes_of (One s) = s ∷ []
shapes_of (Two s t) = s ∷ t ∷ []
shapes_of (Three s t u) = s ∷ t ∷ u ∷ []
shapes_of (Four s t u v) = s ∷ t ∷ u ∷ v ∷ []

-- There are as many arguments as shapes, and each has its shape.
abbrev pub AllAre : List Shape → List WgslType → Type 0
AllAre [] [] = Unit {0}
AllAre (s ∷ ss) (t ∷ ts) = Is s t × AllAre ss ts
AllAre ss ts = ⊥

-- The first arguments have these shapes; more may follow.
abbrev pub BeginAs : List Shape → List WgslType → Type 0
BeginAs [] ts = Unit {0}
BeginAs (s ∷ ss) (t ∷ ts) = Is s t × BeginAs ss ts
BeginAs (s ∷ ss) [] = ⊥

abbrev pub HaveEqualLengths : WgslType → WgslType → Type 0
HaveEqualLengths (within (vec_of n) t) (within (vec_of m) u) = n ≡ m
HaveEqualLengths t u = ⊥

abbrev pub HaveSameAbstractness : WgslType → WgslType → Type 0
HaveSameAbstractness t u = is_abstract t ≡ is_abstract u

abbrev pub Holds : Condition → List WgslType → Type 0
Holds EqualLengths (t ∷ u ∷ ts) = HaveEqualLengths t u
Holds SameAbstractness (t ∷ u ∷ ts) = HaveSameAbstractness t u
Holds c ts = ⊥

abbrev pub Fits : Row → Signature → Type 0
Fits (Takes ss o) c = (c.template ≡ None) × AllAre (shapes_of ss) c.arguments
Fits (TakesAtLeast ss o) c = (c.template ≡ None) × BeginAs (shapes_of ss) c.arguments
Fits (TakesWhere ss k o) c = (c.template ≡ None) × AllAre (shapes_of ss) c.arguments × Holds k c.arguments
Fits (TakesWithTemplate ss o) c = IsSome c.template × AllAre (shapes_of ss) c.arguments

abbrev pub return_type_of : Row → ReturnType
return_type_of (Takes ss o) = o
return_type_of (TakesAtLeast ss o) = o
return_type_of (TakesWhere ss k o) = o
return_type_of (TakesWithTemplate ss o) = o

-- the first three arguments, if there are that many
abbrev pub first : List WgslType → Option WgslType
first ts = slice_get ts 0

abbrev pub second : List WgslType → Option WgslType
second ts = slice_get ts 1

abbrev pub third : List WgslType → Option WgslType
third ts = slice_get ts 2

-- the common type of two types, if both exist and have one
abbrev pub IsCommonOf : Option WgslType → Option WgslType → Option WgslType → Type 0
IsCommonOf (Some t) (Some u) c = IsCommon t u c
IsCommonOf t u c = c ≡ None

abbrev pub texture_in : WgslType → Option TextureType
texture_in (texture x) = Some x
texture_in t = None

-- the sampled type of a texture, and the type that its channels are read as
abbrev pub sampled_in : WgslType → Option WgslType
sampled_in t = option_map (λ s. scalar (sampled_scalar s)) (option_and_then sampled_type (texture_in t))

abbrev pub channel_in : WgslType → Option WgslType
channel_in t = option_map (λ x. scalar (sampled_scalar (texture_channel x))) (texture_in t)

abbrev pub IsSource : Source → List WgslType → Option WgslType → Type 0
IsSource Argument ts t = t ≡ first ts
IsSource Inner ts t = t ≡ option_map inner_of (first ts)
IsSource InnerOfInner ts t = t ≡ option_map inner_of (option_map inner_of (first ts))
IsSource Common ts t = IsCommonOf (first ts) (second ts) t
IsSource InnerOfCommon ts t = (c : Option WgslType) × IsCommonOf (first ts) (second ts) c × (t ≡ option_map inner_of c)
IsSource CommonOfThree ts t = (c : Option WgslType) × IsCommonOf (first ts) (second ts) c × IsCommonOf c (third ts) t
IsSource CommonOfInner ts t =
    (c : Option WgslType) × IsCommonOf (option_map inner_of (first ts)) (option_map inner_of (second ts)) c × IsCommonOf c (third ts) t
IsSource (The s) ts t = t ≡ Some (scalar s)
IsSource SampledAs ts t = t ≡ option_and_then sampled_in (second ts)
IsSource Channel ts t = t ≡ option_and_then channel_in (first ts)

-- a vector of u with as many components as the first type
abbrev pub vector_like : WgslType → WgslType → Option WgslType
vector_like (within (vec_of n) t) u = Some (vec n u)
vector_like t u = None

-- the struct that `frexp` or `modf` returns for an argument, if there is one
abbrev pub IsResultFor : ResultFunction → Option WgslType → Option WgslType → Type 0
IsResultFor f None t = t ≡ None
IsResultFor f (Some u) t = IsResultOf f u t

-- the type, or if there is none the refusal of the call
abbrev pub given : Signature → Option WgslType → Result (Option WgslType) Refusal
given c None = Err (signature c)
given c (Some t) = Ok (Some t)

-- what `bitcast` returns for its template
abbrev pub IsFromTemplate : Signature → Option (List Parameter) → Result (Option WgslType) Refusal → Type 0
IsFromTemplate c (Some ps) (Ok (Some t)) = IsBitcastTemplate ps (Ok t)
IsFromTemplate c (Some ps) (Ok None) = ⊥
IsFromTemplate c (Some ps) (Err e) = IsBitcastTemplate ps (Err e)
IsFromTemplate c None a = a ≡ Err (signature c)

-- what a row returns for a call that it takes
abbrev pub IsReturnType : ReturnType → Signature → Result (Option WgslType) Refusal → Type 0
IsReturnType (Of p) c a = (t : Option WgslType) × IsSource p c.arguments t × (a ≡ given c t)
IsReturnType (Concrete p) c a = (t : Option WgslType) × IsSource p c.arguments t × (a ≡ given c (option_map concretized t))
IsReturnType (AsLong p) c a =
    (t : Option WgslType) × IsSource p c.arguments t × (a ≡ given c (option_and_then (λ f. option_and_then (vector_like f) t) (first c.arguments)))
IsReturnType (InVector n p) c a = (t : Option WgslType) × IsSource p c.arguments t × (a ≡ given c (option_map (vec n) t))
IsReturnType Transposed c a = a ≡ given c (option_and_then transposed_of (first c.arguments))
IsReturnType TextureSize c a = a ≡ given c (option_map (λ x. size_type (dimensions x)) (option_and_then texture_in (first c.arguments)))
IsReturnType (ResultOf f) c a = (t : Option WgslType) × IsResultFor f (first c.arguments) t × (a ≡ given c t)
IsReturnType ExchangeResult c a = a ≡ given c (option_map exchange_struct (option_map inner_of (option_map inner_of (first c.arguments))))
IsReturnType RayIntersection c a = a ≡ given c (Some ray_intersection_struct)
IsReturnType HitPositions c a = a ≡ given c (Some hit_positions_type)
IsReturnType NoValue c a = a ≡ Ok None
IsReturnType ByTemplate c a = IsFromTemplate c c.template a
