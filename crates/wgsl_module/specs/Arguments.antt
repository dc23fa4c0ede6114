-- What stands in the brackets of an attribute (WGSL, "Attributes").
use Rattle.std.specs.Prelude.{◌≡◌, ℕ, List, [], ◌∷◌, ◌++◌, Bool, true, false, Option, Some, None}
use Rattle.wgsl_source.specs.declared.attribute.Name.{Name}
use Rattle.wgsl_source.specs.declared.attribute.Name.TheVariants as name
use Rattle.wgsl_typing.specs.declared.known.Part.{Part}
use Rattle.wgsl_reader.specs.declared.kind.Kind.{Kind}
use Rattle.wgsl_reader.specs.declared.kind.Kind.TheVariants.{Const}
use Rattle.wgsl_typing.specs.Names.{Context}
use Rattle.wgsl_typing.specs.Stacks.{IsOperand}
use Rattle.wgsl_typing.specs.declared.item.Item.{Item}
use Rattle.wgsl_typing.specs.declared.item.Item.TheVariants as items

-- Names in the brackets of these, and of what is no attribute, are no expressions: `@builtin(position)`, `@stage(vertex)`
abbrev pub takes_names : Option Name → Bool
takes_names None = true
takes_names (Some name.Builtin) = true
takes_names (Some name.Interpolate) = true
takes_names other = false

-- one of these names
abbrev pub word_of : Bool → Item → Option ℕ
word_of true (items.Name count) = Some count
word_of takes_names other = None

abbrev pub IsArgument : Option ℕ → Context → Item → List Part → List Part → Type 0
IsArgument (Some count) c i xs ys = ys ≡ xs
IsArgument None c i xs ys = (x : Part) × IsOperand c (i ∷ []) x × (ys ≡ xs ++ x ∷ [])

-- the arguments behind those that are read
abbrev pub AreArguments : Bool → Context → List Item → List Part → List Part → Type 0
AreArguments takes_names c [] xs ys = ys ≡ xs
AreArguments takes_names c (i ∷ is) xs ys = (zs : List Part) × IsArgument (word_of takes_names i) c i xs zs × AreArguments takes_names c is zs ys

-- `@const`, which stands in no text of WGSL's, has none
abbrev pub is_const : Kind → Bool
is_const Const = true
is_const other = false
