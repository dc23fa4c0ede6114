-- Parameters determine the result, if the letters of the result stand among them.
use Rattle.std.proofs.Common.{◌≡◌, List, [], ◌∷◌, Some, Bool, refl, sym, ◌∙◌, ap, inl, inr, true≢false, IsTrue}
use Rattle.wgsl_standard.proofs.Common.{list_any, and_parts, or_cases, Scalar, Component, Count, Shape, Pattern, Overload, Dimensions, Single, Vector, Matrix, Substitution, WgslType, scalar, result_struct, letter_of, precision_of, HasOneResult}
use Rattle.wgsl_syntax.specs.declared.overload.Component.TheVariants.{T, The}
use Rattle.wgsl_syntax.specs.declared.overload.Count.TheVariants.{N, Exactly}
use Rattle.wgsl_syntax.specs.declared.overload.Shape.TheVariants as shapes
use Rattle.wgsl_syntax.specs.declared.overload.Pattern.TheVariants as patterns
use Rattle.wgsl_syntax.specs.declared.overload.Returns.{Returns}
use Rattle.wgsl_syntax.specs.declared.overload.Returns.TheVariants.{Gives, GivesStruct, GivesExchange}
use Rattle.wgsl_rules.specs.calls.ResultTypes.{exchange_struct}
use Rattle.wgsl_rules.specs.standard.Overloads.{type_with, count_in, dimensions_in, component_in, patterns_of, result_of, result_in, IsParameter, AreParameters}
use Rattle.wgsl_standard.specs.internal.FixedResults.{same_letter, fixes, has_component, same_count_letter, shape_of, count_in_shape, has_count, is_either, has_shape, is_fixed, has_one_result}
use Rattle.wgsl_standard.proofs.Letters.{letter_once, letter_says}

type_with_once : (o p : Dimensions) (s g : Scalar) → type_with o s ≡ type_with p g → (o ≡ p) × (s ≡ g)
type_with_once Single Single s g e = (refl, cc e)
type_with_once (Vector n) (Vector m) s g e = (cc e, cc e)
type_with_once (Matrix c r) (Matrix d q) s g e = (cc e, cc e)
type_with_once o p s g e = absurd (cc e)

-- two substitutions that a type fits in one place
same_place : (i j : Substitution) (s : Shape) (e : Component) (u : WgslType) → IsParameter i (patterns.Value s e) u → IsParameter j (patterns.Value s e) u →
    (dimensions_in i s ≡ dimensions_in j s) × (component_in i e ≡ component_in j e)
same_place i j s e u h k = type_with_once (dimensions_in i s) (dimensions_in j s) (component_in i e) (component_in j e) (sym h ∙ k)

letter_same : (i j : Substitution) (c d : Component) → IsTrue (same_letter c d) → component_in i d ≡ component_in j d → component_in i c ≡ component_in j c
letter_same i j (The s) d h e = refl
letter_same i j c T h e = cc
letter_same i j c d h e = cc

fixed_here : (i j : Substitution) (c : Component) (p : Pattern) (u : WgslType) → IsTrue (fixes c p) → IsParameter i p u → IsParameter j p u → component_in i c ≡ component_in j c
fixed_here i j c (patterns.Value s e) u h m n = letter_same i j c e h (same_place i j s e u m n).1
fixed_here i j T (patterns.Resource r) u h m n = letter_once _ _ (letter_of r u) h i.t j.t (letter_says r u) m n
fixed_here i j c p u h m n = absurd (true≢false (sym h))

-- what two substitutions share at each parameter that passes a test, they share if some parameter passes it
listed : (P : Type 0) (test : Pattern → Bool) (i j : Substitution) → ((p : Pattern) (u : WgslType) → IsTrue (test p) → IsParameter i p u → IsParameter j p u → P) →
    (ps : List Pattern) (us : List WgslType) → IsTrue (list_any test ps) → AreParameters i ps us → AreParameters j ps us → P
listed P test i j here [] us h m n = absurd (true≢false (sym h))
listed P test i j here (p ∷ ps) [] h m n = absurd m
listed P test i j here (p ∷ ps) (u ∷ us) h m n = elim (or_cases (test p) (list_any test ps) h) [
  | inl k ↦ here p u k m.0 n.0
  | inr k ↦ listed P test i j here ps us k m.1 n.1
]

listed_component : (i j : Substitution) (c : Component) (ps : List Pattern) (us : List WgslType) → IsTrue (has_component c ps) → AreParameters i ps us → AreParameters j ps us → component_in i c ≡ component_in j c
listed_component i j (The s) ps us h m n = refl
listed_component i j c ps us h m n = listed (component_in i c ≡ component_in j c) (fixes c) i j (fixed_here i j c) ps us h m n

count_same : (i j : Substitution) (c d : Count) → IsTrue (same_count_letter c d) → count_in i d ≡ count_in j d → count_in i c ≡ count_in j c
count_same i j (Exactly n) d h e = refl
count_same i j c N h e = cc
count_same i j c d h e = cc

count_of_shape : (i j : Substitution) (c : Count) (s : Shape) → IsTrue (count_in_shape c s) → dimensions_in i s ≡ dimensions_in j s → count_in i c ≡ count_in j c
count_of_shape i j c (shapes.Vector n) h e = count_same i j c n h (cc e)
count_of_shape i j c (shapes.Matrix m n) h e = elim (or_cases (same_count_letter c m) (same_count_letter c n) h) [
  | inl k ↦ count_same i j c m k (cc e)
  | inr k ↦ count_same i j c n k (cc e)
]
count_of_shape i j c s h e = absurd (true≢false (sym h))

-- a shape that is no scalar stands at a value
shape_here : (i j : Substitution) (p : Pattern) (u : WgslType) → IsParameter i p u → IsParameter j p u → dimensions_in i (shape_of p) ≡ dimensions_in j (shape_of p)
shape_here i j (patterns.Value s e) u m n = (same_place i j s e u m n).0
shape_here i j p u m n = refl

listed_count : (i j : Substitution) (c : Count) (ps : List Pattern) (us : List WgslType) → IsTrue (has_count c ps) → AreParameters i ps us → AreParameters j ps us → count_in i c ≡ count_in j c
listed_count i j (Exactly n) ps us h m k = refl
listed_count i j c ps us h m n =
    listed (count_in i c ≡ count_in j c) (λ p. count_in_shape c (shape_of p)) i j (λ p u k a b. count_of_shape i j c (shape_of p) k (shape_here i j p u a b)) ps us h m n

either_same : (i j : Substitution) (s : Shape) → IsTrue (is_either s) → dimensions_in i s ≡ dimensions_in j s → dimensions_in i shapes.OneOrVector ≡ dimensions_in j shapes.OneOrVector
either_same i j shapes.OneOrVector h e = e
either_same i j s h e = absurd (true≢false (sym h))

listed_shape : (i j : Substitution) (s : Shape) (ps : List Pattern) (us : List WgslType) → IsTrue (has_shape s ps) → AreParameters i ps us → AreParameters j ps us → dimensions_in i s ≡ dimensions_in j s
listed_shape i j shapes.One ps us h m n = refl
listed_shape i j (shapes.Vector c) ps us h m n = ap Vector (listed_count i j c ps us h m n)
listed_shape i j (shapes.Matrix c r) ps us h m n =
    let k = and_parts (has_count c ps) (has_count r ps) h in
    let a = listed_count i j c ps us k.0 m n in
    let b = listed_count i j r ps us k.1 m n in
    cc (a, b)
listed_shape i j shapes.OneOrVector ps us h m n =
    listed (dimensions_in i shapes.OneOrVector ≡ dimensions_in j shapes.OneOrVector) (λ p. is_either (shape_of p)) i j (λ p u k a b. either_same i j (shape_of p) k (shape_here i j p u a b)) ps us h m n

one_result : (i j : Substitution) (r : Returns) (ps : List Pattern) (us : List WgslType) → IsTrue (is_fixed r ps) → AreParameters i ps us → AreParameters j ps us → result_in i us r ≡ result_in j us r
one_result i j (Gives (patterns.Value s e)) ps us h m n =
    let k = and_parts (has_component e ps) (has_shape s ps) h in
    let a = listed_component i j e ps us k.0 m n in
    let b = listed_shape i j s ps us k.1 m n in
    cc (a, b)
one_result i j (GivesStruct f s) ps us h m n = ap (λ t. Some (result_struct f s (precision_of t))) (listed_component i j T ps us h m n)
one_result i j GivesExchange ps us h m n = ap (λ t. Some (exchange_struct (scalar t))) (listed_component i j T ps us h m n)
one_result i j r ps us h m n = refl

pub one_result_is : (o : Overload) → IsTrue (has_one_result o) → HasOneResult o
one_result_is o h us r s a b = a.result ∙ (one_result a.substitution b.substitution (result_of o) (patterns_of o) us h a.parameters b.parameters ∙ sym b.result)
