-- What a name stands for with a template list (WGSL, "Template Lists", "Types").
use Rattle.std.specs.Prelude.{◌≡◌, ℕ, List, [], ◌∷◌, Bool, true, false, ◌&&◌, Option, Some, None, cond, is_some, not, option_map, reverse, unwrap_or}
use Rattle.wgsl_core.specs.View.{view}
use Rattle.wgsl_rules.specs.types.Types.{WgslType, array, atomic, mat, pointer, scalar, texture, vec}
use Rattle.wgsl_syntax.specs.Address.{default_access}
use Rattle.wgsl_syntax.specs.declared.address.AccessMode.{AccessMode}
use Rattle.wgsl_syntax.specs.declared.address.AddressSpace.{AddressSpace}
use Rattle.wgsl_syntax.specs.declared.address.AddressSpace.TheVariants.{Workgroup}
use Rattle.wgsl_syntax.specs.declared.scalar.Scalar.TheVariants.{Bool as TheBool, I32, U32, F32, F16}
use Rattle.wgsl_syntax.specs.declared.texture.SampledType.{SampledType}
use Rattle.wgsl_syntax.specs.declared.texture.SampledType.TheVariants as sampled
use Rattle.wgsl_syntax.specs.TextureName.{parameter_kind, texture_with}
use Rattle.wgsl_syntax.specs.declared.texture_name.TextureName.{TextureName}
use Rattle.wgsl_syntax.specs.declared.texture_name.TextureParameterKind.{TextureParameterKind}
use Rattle.wgsl_syntax.specs.declared.texture_name.TextureParameterKind.TheVariants as kinds
use Rattle.wgsl_syntax.specs.declared.texture_name.TextureParameters.{TextureParameters}
use Rattle.wgsl_syntax.specs.declared.texture_name.TextureParameters.TheVariants as parameters
use Rattle.wgsl_constants.specs.Literals.{then}
use Rattle.wgsl_standard.specs.forms.Variable.{variable}
use Rattle.wgsl_typing.specs.Faults.{last_of, up_to}
use Rattle.wgsl_spelling.specs.declared.predeclared.LayerName.{LayerName}
use Rattle.wgsl_spelling.specs.declared.predeclared.LayerName.TheVariants as layers
use Rattle.wgsl_spelling.specs.declared.predeclared.PredeclaredType.{PredeclaredType}
use Rattle.wgsl_spelling.specs.declared.predeclared.PredeclaredType.TheVariants as p
use Rattle.wgsl_standard.specs.Callees.{a_function, overloads_listed}
use Rattle.wgsl_typing.specs.Counts.{is_counted_by_override}
use Rattle.wgsl_typing.specs.Declarations.{is_refused}
use Rattle.wgsl_typing.specs.Names.{Context, meaning_at, word_in}
use Rattle.wgsl_typing.specs.Parameters.{IsCount, access_listed, access_of, format_of, space_listed, space_of}
use Rattle.wgsl_typing.specs.Predeclared.{type_called}
use Rattle.wgsl_typing.specs.Stacks.{Stack}
use Rattle.wgsl_typing.specs.Taken.{TakesIf, below_list, called_on, in_list, is_array}
use Rattle.wgsl_typing.specs.Types.{type_of_item}
use Rattle.wgsl_typing.specs.declared.item.Item.{Item}
use Rattle.wgsl_typing.specs.declared.item.Item.TheVariants as items
use Rattle.wgsl_typing.specs.declared.item.Listed.{Listed}
use Rattle.wgsl_typing.specs.declared.item.Listed.TheVariants as listeds
use Rattle.wgsl_typing.specs.declared.name.Meaning.{Meaning}
use Rattle.wgsl_typing.specs.declared.name.Meaning.TheVariants as meanings

-- Types

-- `bool`, `i32`, `u32`, `f32`, `f16`
abbrev pub is_component : WgslType → Bool
is_component (scalar TheBool) = true
is_component (scalar I32) = true
is_component (scalar U32) = true
is_component (scalar F32) = true
is_component (scalar F16) = true
is_component t = false

-- `f32`, `f16`
abbrev pub is_float : WgslType → Bool
is_float (scalar F32) = true
is_float (scalar F16) = true
is_float t = false

-- `i32`, `u32`
abbrev pub is_integer : WgslType → Bool
is_integer (scalar I32) = true
is_integer (scalar U32) = true
is_integer t = false

-- `vec3<bool>`
abbrev pub vector_of : ℕ → WgslType → Option WgslType
vector_of n t = cond (is_component t) (Some (vec n t)) None

-- `mat2x3<f32>`
abbrev pub matrix_of : ℕ → ℕ → WgslType → Option WgslType
matrix_of c r t = cond (is_float t) (Some (mat c r t)) None

-- `atomic<u32>`
abbrev pub atomic_of : WgslType → Option WgslType
atomic_of t = cond (is_integer t) (Some (atomic t)) None

-- An element is what a variable of `workgroup` may hold, without a count by an override.
abbrev pub is_element : WgslType → Bool
is_element t = not (is_refused (variable Workgroup None t)) && not (is_counted_by_override t)

-- `array<f32>`, `array<f32, 4>`
abbrev pub array_of : Option ℕ → WgslType → Option WgslType
array_of n t = cond (is_element t) (Some (array n t)) None

-- Overrides count what `workgroup` holds, and nothing else.
abbrev pub may_be_counted : AddressSpace → WgslType → Bool
may_be_counted Workgroup t = true
may_be_counted space t = not (is_counted_by_override t)

-- There is a pointer if there is a variable.
abbrev pub is_pointed_to : AddressSpace → Option AccessMode → WgslType → Bool
is_pointed_to space access t = not (is_refused (variable space access t)) && may_be_counted space t

-- `ptr<storage, f32, read>`
abbrev pub pointer_of : AddressSpace → Option AccessMode → WgslType → Option WgslType
pointer_of space access t = cond (is_pointed_to space access t) (Some (pointer space t (unwrap_or access (default_access space)))) None

-- the type in `texture_2d<f32>`
abbrev pub sampled_of : WgslType → Option SampledType
sampled_of (scalar I32) = Some sampled.I32
sampled_of (scalar U32) = Some sampled.U32
sampled_of (scalar F32) = Some sampled.F32
sampled_of other = None

-- Lists

-- the type that is the only parameter
abbrev pub only_type : Context → List Item → Option WgslType
only_type c (x ∷ []) = type_of_item c x
only_type c items = None

-- a vector, a matrix or an atomic
abbrev pub around_listed : Context → LayerName → List Item → Option WgslType
around_listed c (layers.Vec n) items = then (only_type c items) (vector_of n)
around_listed c (layers.Mat a b) items = then (only_type c items) (matrix_of a b)
around_listed c layers.Atomic items = then (only_type c items) atomic_of
around_listed c layer items = None

-- an array or a pointer, or, past WGSL's limits, none
abbrev pub IsLimited : Option WgslType → Option WgslType → Type 0
IsLimited expected None = Unit {0}
IsLimited expected (Some t) = expected ≡ Some t

abbrev pub IsCounted : Context → Option WgslType → Item → Option WgslType → Type 0
IsCounted c of n None = Unit {0}
IsCounted c of n (Some t) = (count : ℕ) × IsCount c n (Some count) × (then of (array_of (Some count)) ≡ Some t)

abbrev pub IsArrayListed : Context → List Item → Option WgslType → Type 0
IsArrayListed c (x ∷ []) t = IsLimited (then (type_of_item c x) (array_of None)) t
IsArrayListed c (x ∷ n ∷ []) t = IsCounted c (type_of_item c x) n t
IsArrayListed c items t = t ≡ None

-- `ptr<function, f32>`, `ptr<storage, f32, read_write>`
abbrev pub pointer_listed : Context → List Item → Option WgslType
pointer_listed c (s ∷ x ∷ rest) =
    then (space_of c s) (λ space. then (type_of_item c x) (λ t. then (access_listed c rest) (λ access. pointer_of space access t)))
pointer_listed c items = None

abbrev pub IsAround : Context → LayerName → List Item → Option WgslType → Type 0
IsAround c layers.Array items t = IsArrayListed c items t
IsAround c layers.Pointer items t = IsLimited (pointer_listed c items) t
IsAround c layer items t = t ≡ around_listed c layer items

-- the parameters of `texture_2d<f32>`
abbrev pub sampled_listed : Context → List Item → Option TextureParameters
sampled_listed c items = option_map parameters.Sampled (then (only_type c items) sampled_of)

-- those of `texture_storage_2d<rgba8unorm, write>`
abbrev pub stored_listed : Context → List Item → Option TextureParameters
stored_listed c (f ∷ a ∷ []) = then (format_of c f) (λ format. option_map (parameters.Storage format) (access_of c a))
stored_listed c items = None

abbrev pub parameters_listed : Context → TextureParameterKind → List Item → Option TextureParameters
parameters_listed c kinds.Sampled items = sampled_listed c items
parameters_listed c kinds.Storage items = stored_listed c items
parameters_listed c kinds.None items = None

-- `texture_2d<f32>`, `texture_storage_2d<rgba8unorm, write>`
abbrev pub texture_listed : Context → TextureName → List Item → Option WgslType
texture_listed c name items = option_map texture (then (parameters_listed c (parameter_kind name) items) (texture_with name))

abbrev pub IsTypeListed : Context → PredeclaredType → List Item → Option WgslType → Type 0
IsTypeListed c (p.Layer layer) items t = IsAround c layer items t
IsTypeListed c (p.Texture name) items t = t ≡ texture_listed c name items
IsTypeListed c other items t = t ≡ None

-- the type in the list of a function that takes one: `bitcast<f32>`
abbrev pub template_of : Context → List ℕ → List Item → Option WgslType
template_of c name items = cond (is_some (overloads_listed (a_function name) true)) (only_type c items) None

abbrev pub IsPredeclaredListed : Context → ℕ → Option PredeclaredType → List Item → Listed → Type 0
IsPredeclaredListed c count (Some named) items (listeds.Type ty) = IsTypeListed c named items (option_map view ty)
IsPredeclaredListed c count None items (listeds.Function named ty) = (named ≡ count) × (option_map view ty ≡ template_of c (word_in c count) items)
IsPredeclaredListed c count named items l = ⊥

-- What is declared takes no list.
abbrev pub IsMeaningListed : Context → ℕ → Meaning → List Item → Listed → Type 0
IsMeaningListed c count meanings.Undeclared items l = IsPredeclaredListed c count (type_called (word_in c count)) items l
IsMeaningListed c count other items l = l ≡ listeds.Type None

abbrev pub IsListed : Context → ℕ → List Item → Listed → Type 0
IsListed c count items l = IsMeaningListed c count (meaning_at c count) items l

-- The step

-- a name with its list, or the list of a variable
abbrev pub IsClosed : ℕ → Context → List Item → List Item → List Item → Type 0
IsClosed at c listed (items.Name count ∷ rest) is = (l : Listed) × IsListed c count listed l × (is ≡ items.Listed (up_to (last_of count) (last_of at)) l ∷ rest)
IsClosed at c listed rest is = is ≡ items.Space (space_listed c listed) ∷ rest

-- `>`
abbrev pub Template : ℕ → Stack → Stack → Type 0
Template at s r = IsClosed at s.context (reverse (in_list s.items)) (below_list s.items) r.items × (r.context ≡ s.context)
    × TakesIf (is_array (called_on s.context (below_list s.items))) s.context (reverse (in_list s.items)) [] s.parts r.parts
