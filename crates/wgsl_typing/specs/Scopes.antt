-- Names and scopes (WGSL, "Declaration and Scope").
use Rattle.std.specs.Prelude.{ℕ, List, [], ◌∷◌, Bool, false, Option, None, cond, reverse, nat_le, is_some}
use Rattle.std.specs.Option.{option_or}
use Rattle.wgsl_typing.specs.Indices.{Block, in_block, names_of}
use Rattle.wgsl_typing.specs.declared.scope.Local.{Local}
use Rattle.wgsl_typing.specs.declared.scope.Locals.{Locals}

-- the blocks around a place, the innermost first; the outermost is always open
abbrev pub Scope : Type 0
Scope = List Block

-- the innermost declaration of a name; a declaration shadows those of the blocks around it
abbrev pub named : List ℕ → Scope → Option ℕ
named name [] = None
named name (block ∷ scope) = option_or (in_block name block) (named name scope)

-- whether the innermost block declares the name
abbrev pub is_here : List ℕ → Scope → Bool
is_here name [] = false
is_here name (block ∷ scope) = is_some (in_block name block)

-- the scope behind a declaration of the innermost block
abbrev pub with_name : List ℕ → ℕ → Scope → Scope
with_name name index [] = ((name, index) ∷ []) ∷ []
with_name name index (block ∷ scope) = ((name, index) ∷ block) ∷ scope

abbrev pub opened : Scope → Scope
opened scope = [] ∷ scope

-- closing the outermost block leaves it empty
abbrev pub closed : Scope → Scope
closed [] = []
closed (block ∷ []) = [] ∷ []
closed (block ∷ (outer ∷ scope)) = outer ∷ scope

-- those from an index on, and those below it
abbrev pub since : ℕ → Block → Block
since first [] = []
since first (entry ∷ block) = cond (nat_le first entry.1) (entry ∷ since first block) []

abbrev pub before : ℕ → Block → Block
before first [] = []
before first (entry ∷ block) = cond (nat_le first entry.1) (before first block) (entry ∷ block)

-- the names, cut where blocks begin, the innermost first
abbrev pub cut : List ℕ → Block → Scope
cut [] names = names ∷ []
cut (first ∷ starts) names = since first names ∷ cut starts (before first names)

-- locals, and where their blocks begin, both the innermost first
abbrev pub locals_of : Locals → List Local
locals_of locals = reverse locals.locals.items

abbrev pub starts_of : Locals → List ℕ
starts_of locals = reverse locals.blocks.items

abbrev pub scope_view : Locals → Scope
scope_view locals = cut (starts_of locals) (names_of (locals_of locals))
