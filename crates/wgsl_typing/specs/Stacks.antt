-- What is read of expressions and isn't yet part of others, and what stands on top of it as an operand.
use Rattle.std.specs.Prelude.{◌≡◌, ℕ, List, [], ◌∷◌, ◌++◌, false, Option, Some, None, reverse}
use Rattle.wgsl_syntax.specs.declared.address.AccessMode.{AccessMode}
use Rattle.wgsl_syntax.specs.declared.address.AddressSpace.{AddressSpace}
use Rattle.wgsl_typing.specs.Faults.{last_of}
use Rattle.wgsl_typing.specs.declared.fault.Place.{Place}
use Rattle.wgsl_typing.specs.declared.known.Outcome.{Outcome}
use Rattle.wgsl_typing.specs.declared.known.Outcome.TheVariants as outcomes
use Rattle.wgsl_typing.specs.declared.known.Part.{Part}
use Rattle.wgsl_typing.specs.Names.{Context, IsNamed, context}
use Rattle.wgsl_typing.specs.declared.expressions.Expressions.{Expressions}
use Rattle.wgsl_typing.specs.declared.expressions.Named.{Named}
use Rattle.wgsl_typing.specs.declared.item.Item.{Item}
use Rattle.wgsl_typing.specs.declared.item.Item.TheVariants as items

-- what isn't yet part of anything else, the last first; the expressions that are used; and what is declared
pub record Stack : Type 0 where
  pub items : List Item
  pub parts : List Part
  pub context : Context

abbrev pub stack : Expressions → Stack
stack e = record { items = reverse e.items.items; parts = e.parts.items; context = context e }

abbrev pub with_items : List Item → Stack → Stack
with_items is s = record { items = is; parts = s.parts; context = s.context }

abbrev pub with_item : Item → Stack → Stack
with_item i s = record { items = i ∷ s.items; parts = s.parts; context = s.context }

-- these are used
abbrev pub with_parts : List Part → Stack → Stack
with_parts ps s = record { items = s.items; parts = s.parts ++ ps; context = s.context }

-- the same items and declarations; which expressions are used isn't said
abbrev pub KeepsItems : Stack → Stack → Type 0
KeepsItems s r = (r.items ≡ s.items) × (r.context ≡ s.context)

-- the declarations of the module are these
abbrev pub with_declared : List Named → Stack → Stack
with_declared declared s = record {
  items = s.items;
  parts = s.parts;
  context = record {
    text = s.context.text;
    tokens = s.context.tokens;
    names = s.context.names;
    declared = declared;
    structs = s.context.structs;
    extensions = s.context.extensions;
    locals = s.context.locals;
    skipped = s.context.skipped;
  };
}

abbrev pub below : List Item → List Item
below [] = []
below (i ∷ rest) = rest

-- the operator or the `[` on top, by the number of tokens up to it
abbrev pub sign_on : List Item → ℕ
sign_on (items.Sign count ∷ rest) = count
sign_on is = 0

-- what the operand on top is taken as: a type is no value
abbrev pub IsOperand : Context → List Item → Part → Type 0
IsOperand c (items.Part p ∷ rest) x = x ≡ p
IsOperand c (items.Name count ∷ rest) x = IsNamed c count x
IsOperand c (items.Listed place listed ∷ rest) x = (x.place ≡ place) × (x.outcome ≡ outcomes.Faulty)
IsOperand c is x = (x.place ≡ last_of 0) × (x.outcome ≡ outcomes.Faulty)

abbrev pub below_operand : List Item → List Item
below_operand (items.Part p ∷ rest) = rest
below_operand (items.Name count ∷ rest) = rest
below_operand (items.Listed place listed ∷ rest) = rest
below_operand is = is

-- the operand on top of a stack
abbrev pub IsOnTop : Stack → Part → Type 0
IsOnTop s x = IsOperand s.context s.items x

-- What a declaration has behind its name, the last on top: its value and its type; and the template list of a variable, in front of it

abbrev pub initializer_on : List Item → Option Part
initializer_on (items.Part x ∷ rest) = Some x
initializer_on is = None

abbrev pub below_initializer : List Item → List Item
below_initializer (items.Part x ∷ rest) = rest
below_initializer is = is

abbrev pub below_declared : List Item → List Item
below_declared (items.DeclaredType ty ∷ rest) = rest
below_declared is = is

abbrev pub name_on : List Item → ℕ
name_on (items.Name count ∷ rest) = count
name_on is = 0

abbrev pub space_on : List Item → Option (Option (AddressSpace × Option AccessMode))
space_on (items.Space space ∷ rest) = Some space
space_on is = None

abbrev pub below_space : List Item → List Item
below_space (items.Space space ∷ rest) = rest
below_space is = is

-- Expressions

-- an expression at a place that is no name
abbrev pub part_of : Place → Outcome → Part
part_of place outcome = record { place = place; outcome = outcome; may_be_dropped = false; declared = None }

-- an expression on top of these items, in place of those that are used
abbrev pub Puts : List Item → List Part → Place → (Outcome → Type 0) → Stack → Stack → Type 0
Puts rest used place Is s r = (o : Outcome) × Is o × (r ≡ record { items = items.Part (part_of place o) ∷ rest; parts = s.parts ++ used; context = s.context })
