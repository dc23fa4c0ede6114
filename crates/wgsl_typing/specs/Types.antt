-- What items are as types, and what is done where a declared type is read (WGSL, "Types").
use Rattle.std.specs.Prelude.{◌≡◌, ℕ, List, [], ◌∷◌, ◌++◌, Option, None, option_map}
use Rattle.wgsl_core.specs.View.{view}
use Rattle.wgsl_core.specs.declared.ty.Type.{«Type»}
use Rattle.wgsl_rules.specs.types.Types.{WgslType}
use Rattle.wgsl_typing.specs.declared.known.Part.{Part}
use Rattle.wgsl_typing.specs.Names.{Context, type_named}
use Rattle.wgsl_typing.specs.Stacks.{Stack, below_operand}
use Rattle.wgsl_typing.specs.declared.item.Item.{Item}
use Rattle.wgsl_typing.specs.declared.item.Item.TheVariants as items
use Rattle.wgsl_typing.specs.declared.item.Listed.{Listed}
use Rattle.wgsl_typing.specs.declared.item.Listed.TheVariants as listeds

-- a name with a template list: a function is no type
abbrev pub type_listed : Listed → Option WgslType
type_listed (listeds.Type ty) = option_map view ty
type_listed (listeds.Function count ty) = None

-- the type that an item is
abbrev pub type_of_item : Context → Item → Option WgslType
type_of_item c (items.Name count) = type_named c count
type_of_item c (items.Listed place listed) = type_listed listed
type_of_item c other = None

-- that of the item on top
abbrev pub type_on : Context → List Item → Option WgslType
type_on c [] = None
type_on c (i ∷ rest) = type_of_item c i

-- An expression in place of a type is used.
abbrev pub no_type_on : List Item → List Part
no_type_on (items.Part x ∷ rest) = x ∷ []
no_type_on is = []

-- without the type on top
abbrev pub below_type : Stack → Stack
below_type s = record { items = below_operand s.items; parts = s.parts ++ no_type_on s.items; context = s.context }

abbrev pub IsTypeOnTop : Stack → Option «Type» → Type 0
IsTypeOnTop s ty = option_map view ty ≡ type_on s.context s.items

-- `: T`
abbrev pub DeclaredType : Stack → Stack → Type 0
DeclaredType s r = (ty : Option «Type») × IsTypeOnTop s ty
    × (r ≡ record { items = items.DeclaredType ty ∷ below_operand s.items; parts = s.parts ++ no_type_on s.items; context = s.context })
