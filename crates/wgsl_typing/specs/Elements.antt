-- The values of the elements of arrays, the members of structs and the components of vectors (WGSL, "Composite Value Decomposition
-- Expressions").
use Rattle.std.specs.Prelude.{◌≡◌, ℕ, ℤ, pos, List, [], ◌∷◌, ◌++◌, Bool, true, false, Option, Some, None, length, map, slice_get}
use Rattle.std.specs.Option.{option_and_then}
use Rattle.std.specs.declared.alloc.Global.{Global}
use Rattle.std.specs.declared.vec.Vec.{Vec}
use Rattle.wgsl_core.specs.View.{view}
use Rattle.wgsl_rules.specs.types.Types.{WgslType}
use Rattle.wgsl_constants.specs.Conversions.{number}
use Rattle.wgsl_constants.specs.Literals.{then}
use Rattle.wgsl_constants.specs.Values.{map_value}
use Rattle.wgsl_constants.specs.Vectors.{element, member, swizzle}
use Rattle.wgsl_constants.specs.declared.constant.Constant.TheVariants as constants
use Rattle.wgsl_constants.specs.declared.integer.Integer.{Integer}
use Rattle.wgsl_constants.specs.declared.vector.Vector.{Vector}
use Rattle.wgsl_standard.specs.forms.Memory.{behind}
use Rattle.wgsl_typing.specs.Known.{typed_in}
use Rattle.wgsl_typing.specs.Stages.{is_const}
use Rattle.wgsl_typing.specs.StructNames.{index_of, struct_of}
use Rattle.wgsl_typing.specs.Values.{in_type}
use Rattle.wgsl_typing.specs.declared.known.Outcome.{Outcome}
use Rattle.wgsl_typing.specs.declared.known.Outcome.TheVariants as outcomes
use Rattle.wgsl_typing.specs.declared.known.Part.{Part}
use Rattle.wgsl_typing.specs.declared.known.Typed.{Typed}
use Rattle.wgsl_typing.specs.declared.structs.Declared.{Declared}
use Rattle.wgsl_typing.specs.declared.structs.Structs.{Structs}
use Rattle.wgsl_typing.specs.declared.value.Value.{Value}
use Rattle.wgsl_typing.specs.declared.value.Value.TheVariants.{One, Several, Elements}
use Rattle.wgsl_spelling.specs.Names.{or_else}

-- What is kept

-- the value of an expression, if it is computed
abbrev pub value_in : Part → Option Value
value_in x = option_and_then (λ x. x.value) (typed_in x.outcome)

-- Of an array or a struct that is made of constants their values are kept, behind those before. It stands for them by their index.
abbrev pub KeptIf : Bool → List Part → List (Vec (Option Value) Global) → List (Vec (Option Value) Global) → Option Value → Type 0
KeptIf true xs kept now value = (values : Vec (Option Value) Global) × (values.items ≡ map value_in xs) × (now ≡ kept ++ values ∷ [])
    × (value ≡ Some (Elements (length kept)))
KeptIf false xs kept now value = (now ≡ kept) × (value ≡ None)

-- the value with an index among those with an index
abbrev pub kept_at : List (Vec (Option Value) Global) → ℕ → ℕ → Option Value
kept_at kept which index = then (slice_get kept which) (λ values. then (slice_get values.items index) (λ value. value))

-- Elements and members

abbrev pub one : Integer → Value
one n = One (constants.Integer n)

abbrev pub element_of : List (Vec (Option Value) Global) → Value → ℤ → Option Value
element_of kept (Several x) n = map_value one (element n x)
element_of kept (Elements which) (pos n) = kept_at kept which n
element_of kept x n = None

-- `vec2(4, 1)[0]`, `array(4, 1)[0]`
abbrev pub element_at : List (Vec (Option Value) Global) → Option Value → ℤ → Option Value
element_at kept value n = then value (λ x. element_of kept x n)

-- `vec2(4, 1).x`, `vec2(4, 1).yx`
abbrev pub components : List ℕ → Vector → Option Value
components name x = or_else (map_value one (member name x)) (map_value Several (swizzle name x))

-- the index of the member of a declared struct
abbrev pub index_in : Option Declared → List ℕ → Option ℕ
index_in None name = None
index_in (Some d) name = index_of name d.members

abbrev pub member_of : Structs → List (Vec (Option Value) Global) → List ℕ → WgslType → Value → Option Value
member_of structs kept name t (One x) = None
member_of structs kept name t (Several x) = components name x
member_of structs kept name t (Elements which) = then (index_in (struct_of (behind t) structs) name) (kept_at kept which)

-- `vec2(4, 1).x`, `S(4, 1).a`
abbrev pub member_in : Structs → List (Vec (Option Value) Global) → List ℕ → Typed → Option Value
member_in structs kept name x = then x.value (member_of structs kept name (view x.ty))

-- `array(4, 1)[0]`, by the values of the array and of its index, in the type of the element
abbrev pub indexed : List (Vec (Option Value) Global) → Option Value → Option Value → WgslType → Option Value
indexed kept value (Some (One (constants.Integer n))) t = then (element_at kept value (number n)) (in_type t)
indexed kept value index t = None

-- what has a type has the value that is computed in it
abbrev pub HasTaken : (WgslType → Option Value) → Outcome → Type 0
HasTaken taken (outcomes.Typed x) = x.value ≡ taken (view x.ty)
HasTaken taken other = Unit {0}

-- what is made of these has its own, the last that are kept
abbrev pub IsKept : List Part → List (Vec (Option Value) Global) → Outcome → Type 0
IsKept xs now (outcomes.Typed x) = (kept : List (Vec (Option Value) Global)) × KeptIf (is_const x.stage) xs kept now x.value
IsKept xs now other = Unit {0}

abbrev pub is_typed : Outcome → Bool
is_typed (outcomes.Typed x) = true
is_typed other = false
