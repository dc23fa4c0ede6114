-- The address space and the access mode of a variable (WGSL, "Variable Declarations").
use Rattle.std.specs.Prelude.{◌≡◌, ℕ, List, [], ◌∷◌, true, Option, Some, None, map, option_map}
use Rattle.std.specs.List.{All}
use Rattle.wgsl_reader.specs.declared.mark.Mark.{Mark}
use Rattle.wgsl_reader.specs.declared.mark.Mark.TheVariants as m
use Rattle.wgsl_reader.specs.declared.read.Event.{Event}
use Rattle.wgsl_reader.specs.declared.token.Token.{Token}
use Rattle.wgsl_spelling.specs.Words.{word}
use Rattle.wgsl_syntax.specs.Address.{IsSpace, access_text, default_access, may_say}
use Rattle.wgsl_syntax.specs.declared.address.AccessMode.{AccessMode}
use Rattle.wgsl_syntax.specs.declared.address.AccessMode.TheVariants.{Read}
use Rattle.wgsl_syntax.specs.declared.address.AddressSpace.{AddressSpace}
use Rattle.wgsl_syntax.specs.declared.address.AddressSpace.TheVariants.{Handle}
use Rattle.wgsl_syntax.specs.declared.rules.RuleSet.TheVariants.{Standard}
use Rattle.wgsl_source.specs.Declarations.{inner, token_before}
use Rattle.wgsl_source.specs.declared.scope.Meaning.{Meaning}
use Rattle.wgsl_source.specs.declared.text.Text.{Text}

-- one name more in front; anything else is no name
abbrev pub with_name : Mark → Token → Option (List Token) → Option (List Token)
with_name m.Name token names = option_map (λ ts. token ∷ ts) names
with_name m.Value token names = names
with_name other token names = None

-- the names that events say, if they say nothing else: `storage`, `read`
abbrev pub names_only : Text → List Event → Option (List Token)
names_only t [] = Some []
names_only t (event ∷ events) = with_name event.mark (token_before t event.at) (names_only t events)

-- these words say this address space and this access mode
pub data Say : List (List ℕ) → AddressSpace → AccessMode → Type 0 where
  -- `var sky: texture_2d<f32>;`
  nothing : Say [] Handle Read
  -- `var<private> count: u32;`
  a_space : {text : List ℕ} {space : AddressSpace} → IsSpace Standard text space → Say (text ∷ []) space (default_access space)
  -- `var<storage, read_write> lights: array<Light>;`
  both : {text : List ℕ} {space : AddressSpace} {access : AccessMode} → IsSpace Standard text space → may_say space access ≡ true
      → Say (text ∷ access_text access ∷ []) space access

-- the module doesn't declare a name
abbrev pub IsFree : Text → (List ℕ → Option Meaning) → Token → Type 0
IsFree t named token = named (word t.text.now token) ≡ None

-- names say them, none of which the module declares
pub record AreSaid (t : Text) (named : List ℕ → Option Meaning) (names : Option (List Token)) (space : AddressSpace) (access : AccessMode) : Type 0 where
  pub tokens : List Token
  pub there : names ≡ Some tokens
  pub undeclared : All (IsFree t named) tokens
  pub say : Say (map (word t.text.now) tokens) space access

-- a template list says them: `<storage, read_write>`
abbrev pub IsQualified : Text → (List ℕ → Option Meaning) → List Event → AddressSpace → AccessMode → Type 0
IsQualified t named list space access = AreSaid t named (names_only t (inner list)) space access
