-- The names among the items that are read of a template list.
use Rattle.std.specs.Prelude.{◌≡◌, ℕ, List, [], ◌∷◌, ◌++◌, true, Option, Some, None, option_map, Result, Ok, Err}
use Rattle.wgsl_reader.specs.declared.token.Token.{Token}
use Rattle.wgsl_spelling.specs.Words.{word}
use Rattle.wgsl_syntax.specs.Address.{IsSpace, access_text, default_access, may_say}
use Rattle.wgsl_syntax.specs.Attribute.{flag_text}
use Rattle.wgsl_syntax.specs.Texel.{IsTexel}
use Rattle.wgsl_syntax.specs.declared.address.AccessMode.{AccessMode}
use Rattle.wgsl_syntax.specs.declared.address.AddressSpace.{AddressSpace}
use Rattle.wgsl_syntax.specs.declared.attribute.AccelerationStructureFlags.{AccelerationStructureFlags}
use Rattle.wgsl_syntax.specs.declared.rules.RuleSet.TheVariants.{Standard}
use Rattle.wgsl_syntax.specs.declared.texel.TexelFormat.{TexelFormat}
use Rattle.wgsl_source.specs.declared.item.Content.{Content}
use Rattle.wgsl_source.specs.declared.item.Content.TheVariants as content
use Rattle.wgsl_source.specs.declared.item.Item.{Item}
use Rattle.wgsl_source.specs.declared.scope.Meaning.{Meaning}
use Rattle.wgsl_source.specs.declared.text.Text.{Text}
use Rattle.wgsl_source.specs.declared.value.Value.{Value}

abbrev pub with_content : Content → Token → Option (List Token) → Option (List Token)
with_content content.Name token names = option_map (λ ts. token ∷ ts) names
with_content other token names = None

-- the names that items are, if all are names
abbrev pub item_names : List Item → Option (List Token)
item_names [] = Some []
item_names (item ∷ items) = with_content item.content item.token (item_names items)

-- an item is the name of this address space, or of this access mode, which the module doesn't declare
pub record NamesSpace (t : Text) (named : List ℕ → Option Meaning) (item : Item) (space : AddressSpace) : Type 0 where
  pub name : item.content ≡ content.Name
  pub undeclared : named (word t.text.now item.token) ≡ None
  pub text : IsSpace Standard (word t.text.now item.token) space

pub record NamesAccess (t : Text) (named : List ℕ → Option Meaning) (item : Item) (access : AccessMode) : Type 0 where
  pub name : item.content ≡ content.Name
  pub undeclared : named (word t.text.now item.token) ≡ None
  pub text : word t.text.now item.token ≡ access_text access

-- an item is the name of this texel format, or of this flag, which the module doesn't declare
pub record NamesFormat (t : Text) (named : List ℕ → Option Meaning) (item : Item) (format : TexelFormat) : Type 0 where
  pub name : item.content ≡ content.Name
  pub undeclared : named (word t.text.now item.token) ≡ None
  pub text : IsTexel Standard (word t.text.now item.token) format

pub record NamesFlag (t : Text) (named : List ℕ → Option Meaning) (item : Item) (flag : AccelerationStructureFlags) : Type 0 where
  pub name : item.content ≡ content.Name
  pub undeclared : named (word t.text.now item.token) ≡ None
  pub text : word t.text.now item.token ≡ flag_text flag

-- the access mode of an address space, with that of the item behind it, if there is one
abbrev pub HasAccess : Text → (List ℕ → Option Meaning) → AddressSpace → List Item → AccessMode → Type 0
HasAccess t named space [] access = access ≡ default_access space
HasAccess t named space (item ∷ []) access = NamesAccess t named item access × (may_say space access ≡ true)
HasAccess t named space (a ∷ b ∷ more) access = ⊥

-- a value stands in place of what begins with an item
abbrev pub IsPut : {E : Type 0} → Result Value E → Item → List Item → List Item → Type 0
IsPut (Ok v) first old new = new ≡ old ++ record { token = first.token; content = content.Value v } ∷ []
IsPut (Err e) first old new = ⊥
