-- Which expressions of a template list are used, in their order (WGSL, "Template Lists").
use Rattle.std.specs.Prelude.{◌≡◌, ◌⊎◌, ℕ, List, [], ◌∷◌, ◌++◌, Bool, true, false, Option, Some, None, cond}
use Rattle.wgsl_typing.specs.declared.known.Part.{Part}
use Rattle.wgsl_spelling.specs.declared.predeclared.LayerName.TheVariants.{Array}
use Rattle.wgsl_spelling.specs.declared.predeclared.PredeclaredType.{PredeclaredType}
use Rattle.wgsl_spelling.specs.declared.predeclared.PredeclaredType.TheVariants.{Layer}
use Rattle.wgsl_typing.specs.Names.{Context, meaning_at, word_in}
use Rattle.wgsl_typing.specs.Predeclared.{type_called}
use Rattle.wgsl_typing.specs.Stacks.{IsOperand}
use Rattle.wgsl_typing.specs.Types.{no_type_on}
use Rattle.wgsl_typing.specs.declared.item.Item.{Item}
use Rattle.wgsl_typing.specs.declared.item.Item.TheVariants as items
use Rattle.wgsl_typing.specs.declared.name.Meaning.{Meaning}
use Rattle.wgsl_typing.specs.declared.name.Meaning.TheVariants.{Undeclared}

-- the `<` of a list
abbrev pub is_open : Item → Bool
is_open items.OpenList = true
is_open i = false

-- the items of the innermost list, the last first, and what stands below its `<`
abbrev pub in_list : List Item → List Item
in_list [] = []
in_list (i ∷ rest) = cond (is_open i) [] (i ∷ in_list rest)

abbrev pub below_list : List Item → List Item
below_list [] = []
below_list (i ∷ rest) = cond (is_open i) rest (below_list rest)

-- the expressions among these items
abbrev pub expressions_in : List Item → List Part
expressions_in [] = []
expressions_in (items.Part x ∷ rest) = x ∷ expressions_in rest
expressions_in (i ∷ rest) = expressions_in rest

-- Of a list these items are left: with the expressions among them, all expressions of the list are used behind those that were.
abbrev pub TakesFrom : List Item → List Item → List Part → List Part → Type 0
TakesFrom listed rest xs ys = ys ++ expressions_in rest ≡ xs ++ expressions_in listed

abbrev pub is_array : Option PredeclaredType → Bool
is_array (Some (Layer Array)) = true
is_array other = false

-- what WGSL predeclares by a name, if nothing else is declared by it
abbrev pub called_by : Context → ℕ → Meaning → Option PredeclaredType
called_by c count Undeclared = type_called (word_in c count)
called_by c count other = None

abbrev pub called_on : Context → List Item → Option PredeclaredType
called_on c (items.Name count ∷ rest) = called_by c count (meaning_at c count)
called_on c is = None

-- `array<f32, N>`: the count is used, also if it is a name, and nothing is left.
abbrev pub TakesCount : Context → List Item → List Item → List Part → List Part → Type 0
TakesCount c (x ∷ n ∷ []) rest xs ys = (count : Part) × IsOperand c (n ∷ []) count × (rest ≡ []) × (ys ≡ (xs ++ no_type_on (x ∷ [])) ++ count ∷ [])
TakesCount c listed rest xs ys = ⊥

abbrev pub TakesIf : Bool → Context → List Item → List Item → List Part → List Part → Type 0
TakesIf true c listed rest xs ys = TakesFrom listed rest xs ys ⊎ TakesCount c listed rest xs ys
TakesIf false c listed rest xs ys = TakesFrom listed rest xs ys
