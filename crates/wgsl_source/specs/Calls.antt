-- Calls whose values are known when a module is read (WGSL, "Value Constructor Built-in Functions", "Built-in Functions").
use Rattle.std.specs.Prelude.{◌≡◌, ◌⊎◌, ℕ, List, [], ◌∷◌, Bool, false, true, cond, Option, Some, None, bytes_eq, codes, length, nat_eq, slice_get}
use Rattle.wgsl_constants.specs.Calls.{bitcast, called, conversion, function_named, with_argument}
use Rattle.wgsl_constants.specs.Literals.{found, then}
use Rattle.wgsl_constants.specs.Values.{map_value}
use Rattle.wgsl_constants.specs.Vectors.{dot, each, size_named, vector_of, with_components}
use Rattle.wgsl_constants.specs.declared.call.Arguments.{Arguments}
use Rattle.wgsl_constants.specs.declared.call.Arguments.TheVariants.{Zero}
use Rattle.wgsl_constants.specs.declared.call.Function.{Function}
use Rattle.wgsl_constants.specs.declared.vector.Size.{Size}
use Rattle.wgsl_constants.specs.declared.vector.Size.TheVariants as size
use Rattle.wgsl_constants.specs.declared.vector.Vector.{Vector}
use Rattle.wgsl_reader.specs.declared.token.Token.{Token}
use Rattle.wgsl_spelling.specs.Predeclared.{predeclared}
use Rattle.wgsl_spelling.specs.Words.{word}
use Rattle.wgsl_spelling.specs.declared.predeclared.PredeclaredType.{PredeclaredType}
use Rattle.wgsl_spelling.specs.declared.predeclared.PredeclaredType.TheVariants as p
use Rattle.wgsl_syntax.specs.declared.scalar.Scalar.{Scalar}
use Rattle.wgsl_source.specs.Values.{one, vector_in}
use Rattle.wgsl_source.specs.declared.call.Callee.{Callee}
use Rattle.wgsl_source.specs.declared.call.Callee.TheVariants as callee
use Rattle.wgsl_source.specs.declared.item.Content.{Content}
use Rattle.wgsl_source.specs.declared.item.Content.TheVariants as content
use Rattle.wgsl_source.specs.declared.item.Item.{Item}
use Rattle.wgsl_source.specs.declared.measured.TypeKind.{TypeKind}
use Rattle.wgsl_source.specs.declared.measured.TypeKind.TheVariants as kind
use Rattle.wgsl_source.specs.declared.scope.Meaning.{Meaning}
use Rattle.wgsl_source.specs.declared.scope.Meaning.TheVariants as meaning
use Rattle.wgsl_source.specs.declared.text.Text.{Text}
use Rattle.wgsl_source.specs.declared.value.Value.{Value}
use Rattle.wgsl_source.specs.declared.value.Value.TheVariants as value

-- What is called

abbrev pub size_of : ℕ → Option Size
size_of n = cond (nat_eq n 2) (Some size.Two) (cond (nat_eq n 3) (Some size.Three) (cond (nat_eq n 4) (Some size.Four) None))

abbrev pub vector : ℕ → Scalar → Option Callee
vector n s = map_value (λ size. callee.Vector size (Some s)) (size_of n)

-- `u32`, `vec2<i32>`, or an alias of it
abbrev pub constructor : TypeKind → Option Callee
constructor (kind.Scalar s) = map_value callee.Function (conversion s)
constructor (kind.Vector n s) = vector n s
constructor other = None

-- `max`, `vec2i`, `vec2`, `dot`
abbrev pub callee_by : List ℕ → Option Function → Option PredeclaredType → Option Callee
callee_by name (Some function) type = Some (callee.Function function)
callee_by name None (Some (p.Vec n s)) = vector n s
callee_by name None (Some other) = map_value (λ size. callee.Vector size None) (size_named name)
callee_by name None None = cond (bytes_eq name (codes "dot")) (Some callee.Dot) None

abbrev pub predeclared_callee : List ℕ → Option Callee
predeclared_callee name = callee_by name (function_named name) (predeclared name)

-- what is called by a name: the constructor of the type that is declared so, or what is predeclared
abbrev pub callee_named : List ℕ → Option Meaning → Option Callee
callee_named name (Some (meaning.«Type» declared)) = constructor declared.kind
callee_named name (Some meant) = None
callee_named name None = predeclared_callee name

abbrev pub callee_of : Text → (List ℕ → Option Meaning) → Token → Content → Option Callee
callee_of t named token content.Name = callee_named (word t.text.now token) (named (word t.text.now token))
callee_of t named token (content.«Type» ty) = constructor ty.kind
callee_of t named token (content.Bitcast s) = then s (λ s. map_value callee.Function (bitcast s))
callee_of t named token content.Function = predeclared_callee (word t.text.now token)
callee_of t named token other = None

-- Arguments

-- a vector that is the only argument of a constructor, in the type of its components, if that is given: `vec2u(vec2i(4, 1))`
abbrev pub argument_in : Bool → Option Scalar → Vector → Option Vector
argument_in only None v = Some v
argument_in false (Some s) v = Some v
argument_in true (Some s) v = then (conversion s) (λ function. found (each function v))

-- the arguments with one more: a vector counts as its components
abbrev pub with_vector : Callee → Bool → Vector → Arguments → Option Arguments
with_vector (callee.Vector size s) only v given = then (argument_in only s v) (λ v. with_components v given)
with_vector callee.Dot only v given = Some given
with_vector other only v given = None

abbrev pub with_content : Callee → Bool → Content → Arguments → Option Arguments
with_content of only (content.Value (value.Known x)) given = with_argument x given
with_content of only (content.Value (value.Vector v)) given = with_vector of only v given
with_content of only other given = None

abbrev pub with_items : Callee → Bool → List Item → Arguments → Option Arguments
with_items of only [] given = Some given
with_items of only (x ∷ items) given = then (with_content of only x.content given) (with_items of only items)

abbrev pub dot_of : Content → Content → Option Value
dot_of (content.Value (value.Vector a)) (content.Value (value.Vector b)) = map_value one (found (dot a b))
dot_of a b = None

abbrev pub dot_value : List Item → Option Value
dot_value (a ∷ b ∷ []) = dot_of a.content b.content
dot_value items = None

abbrev pub called_with : Callee → List Item → Arguments → Option Value
called_with callee.Dot items given = dot_value items
called_with (callee.Function function) items given = map_value value.Known (found (called function given))
called_with (callee.Vector size None) items given = map_value value.Vector (found (vector_of size given))
called_with (callee.Vector size (Some s)) items given = then (found (vector_of size given)) (vector_in s)

-- an argument is known later
abbrev pub IsLaterAmong : List Item → Type 0
IsLaterAmong items = (index : ℕ) × (x : Item) × (slice_get items index ≡ Some x) × (x.content ≡ content.Value value.Later)

-- `max(n, 4)`: known later, if an argument is
abbrev pub IsCallOf : Callee → List Item → Value → Type 0
IsCallOf of items v = (then (with_items of (nat_eq (length items) 1) items Zero) (called_with of items) ≡ Some v) ⊎ (IsLaterAmong items × (v ≡ value.Later))

abbrev pub IsCalled : Text → (List ℕ → Option Meaning) → Item → List Item → Value → Type 0
IsCalled t named name items v = (of : Callee) × (callee_of t named name.token name.content ≡ Some of) × IsCallOf of items v
