-- What is read of a module, and what may change of it.
use Rattle.std.specs.Prelude.{◌≡◌, ℕ, List, [], ◌∷◌, Option, map, reverse}
use Rattle.std.specs.BTreeMap.{BTreeMap}
use Rattle.std.specs.Borrow.{Bor}
use Rattle.wgsl_module.specs.declared.block.Loop.{Loop}
use Rattle.wgsl_module.specs.declared.checker.Checker.{Checker}
use Rattle.wgsl_module.specs.declared.declaration.Declaration.{Declaration}
use Rattle.wgsl_module.specs.declared.switch.Switch.{Switch}
use Rattle.wgsl_typing.specs.declared.expressions.Named.{Named}
use Rattle.wgsl_typing.specs.declared.extension.Extensions.{Extensions}
use Rattle.wgsl_typing.specs.declared.item.Item.{Item}
use Rattle.wgsl_typing.specs.declared.known.Known.{Known}
use Rattle.wgsl_typing.specs.declared.known.Part.{Part}
use Rattle.wgsl_typing.specs.declared.structs.Structs.{Structs}
use Rattle.wgsl_typing.specs.Names.{with_known}
use Rattle.wgsl_typing.specs.Stacks.{Stack, stack, with_declared, with_items, with_parts}
use Rattle.wgsl_reader.specs.declared.token.Token.{Token}

-- The stack, which has the names in scope, and the declarations. Of the statements of a body that are open, the innermost first: the selector
-- and the values of each `switch`, how many names were in scope where each block began, and the loops.
pub record State : Type 0 where
  pub stack : Stack
  pub switches : List (List Part)
  pub blocks : List ℕ
  pub loops : List Loop
  pub declarations : List Declaration

abbrev pub of_switch : Switch → List Part
of_switch s = s.selector ∷ s.values.items

abbrev pub state : Checker → State
state c = record {
  stack = stack c.expressions;
  switches = map of_switch (reverse c.switches.items);
  blocks = reverse c.blocks.items;
  loops = reverse c.loops.items;
  declarations = c.declarations.items;
}

-- nothing of it changes, so no name in scope does
abbrev pub Keeps : State → State → Type 0
Keeps s r = r ≡ s

-- what is read: the module's text, its tokens and its declarations
abbrev pub source : State → List ℕ × List Token × List Declaration
source s = (s.stack.context.text, s.stack.context.tokens, s.declarations)

-- these items stand on the stack
abbrev pub standing : List Item → State → State
standing is s = record s { stack = with_items is s.stack }

-- these expressions are noted
abbrev pub noted : List Part → State → State
noted ps s = record s { stack = with_parts ps s.stack }

-- these items are left, and these expressions are noted
abbrev pub leaving : List Item → List Part → State → State
leaving is ps s = noted ps (standing is s)

-- these items are left, and these switches are open
abbrev pub switching : List Item → List (List Part) → State → State
switching is switches s = record (standing is s) { switches = switches }

-- nothing stands on the stack, and no `switch` is open: what is noted stays
abbrev pub cleared : State → State
cleared s = switching [] [] s

-- What the module declares

-- its names, and what they stand for
abbrev pub with_names : BTreeMap (Bor (List ℕ)) ℕ → List Named → Stack → Stack
with_names names declared s = record s { context = record s.context { names = names; declared = declared } }

-- nothing but these changes
abbrev pub KeepsButNames : State → State → Type 0
KeepsButNames s r = r ≡ record s { stack = with_names r.stack.context.names r.stack.context.declared s.stack }

abbrev pub with_structs : Structs → State → State
with_structs structs s = record s { stack = record s.stack { context = record s.stack.context { structs = structs } } }

abbrev pub KeepsButStructs : State → State → Type 0
KeepsButStructs s r = r ≡ with_structs r.stack.context.structs s

abbrev pub with_extensions : Extensions → State → State
with_extensions extensions s = record s { stack = record s.stack { context = record s.stack.context { extensions = extensions } } }

-- the declaration with an index stands for that
abbrev pub with_meaning : ℕ → Option Known → State → State
with_meaning index known s = record s { stack = with_declared (with_known index known s.stack.context.declared) s.stack }
