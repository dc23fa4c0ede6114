-- What a name stands for at a place, as a value and as a type (WGSL, "Declaration and Scope").
use Rattle.std.specs.Prelude.{◌≡◌, ℕ, zero, suc, List, [], ◌∷◌, Bool, false, ◌&&◌, Option, Some, None, cond, is_some, nat_le, nat_lt, option_map, slice_get}
use Rattle.std.specs.BTreeMap.{BTreeMap, get_by}
use Rattle.std.specs.Borrow.{Bor}
use Rattle.std.specs.Cmp.Lexicographic.{slice_cmp}
use Rattle.std.specs.Option.{option_and_then}
use Rattle.std.specs.Ordering.{nat_cmp}
use Rattle.wgsl_core.specs.View.{view}
use Rattle.wgsl_rules.specs.types.Types.{WgslType}
use Rattle.wgsl_typing.specs.Faults.{last_of}
use Rattle.wgsl_typing.specs.Scopes.{named, scope_view}
use Rattle.wgsl_typing.specs.declared.known.Known.{Known}
use Rattle.wgsl_typing.specs.declared.known.Known.TheVariants as knowns
use Rattle.wgsl_typing.specs.declared.known.Outcome.{Outcome}
use Rattle.wgsl_typing.specs.declared.known.Outcome.TheVariants as outcomes
use Rattle.wgsl_typing.specs.declared.known.Part.{Part}
use Rattle.wgsl_typing.specs.declared.known.Typed.{Typed}
use Rattle.wgsl_typing.specs.declared.scope.Local.{Local}
use Rattle.wgsl_typing.specs.declared.scope.Locals.{Locals}
use Rattle.wgsl_typing.specs.declared.structs.Structs.{Structs}
use Rattle.wgsl_typing.specs.declared.value.Value.{Value}
use Rattle.wgsl_reader.specs.declared.token.Token.{Token}
use Rattle.wgsl_typing.specs.Outcomes.{HasType}
use Rattle.wgsl_typing.specs.Predeclared.{type_predeclared}
use Rattle.wgsl_typing.specs.Words.{word_at}
use Rattle.wgsl_typing.specs.declared.expressions.Expressions.{Expressions}
use Rattle.wgsl_typing.specs.declared.expressions.Named.{Named}
use Rattle.wgsl_typing.specs.declared.extension.Extensions.{Extensions}
use Rattle.wgsl_typing.specs.declared.name.Meaning.{Meaning}
use Rattle.wgsl_typing.specs.declared.name.Meaning.TheVariants as meanings

-- the text and its tokens, and what is declared where an expression stands in it
pub record Context : Type 0 where
  pub text : List ℕ
  pub tokens : List Token
  pub names : BTreeMap (Bor (List ℕ)) ℕ
  pub declared : List Named
  pub structs : Structs
  pub extensions : Extensions
  pub locals : Locals
  pub skipped : ℕ × ℕ

abbrev pub context : Expressions → Context
context e = record {
  text = e.text.now;
  tokens = e.tokens.now;
  names = e.names;
  declared = e.declared.items;
  structs = e.structs;
  extensions = e.extensions;
  locals = e.locals;
  skipped = e.skipped;
}

-- the text of the last of this many tokens
abbrev pub word_in : Context → ℕ → List ℕ
word_in c count = word_at c.text c.tokens count

-- what the declaration of a module with an index stands for, if it is read
abbrev pub known_of : List Named → ℕ → Option Known
known_of declared index = option_and_then (λ d. d.known) (slice_get declared index)

-- the declaration with an index stands for that
abbrev pub with_known : ℕ → Option Known → List Named → List Named
with_known index known [] = []
with_known zero known (d ∷ declared) = record { named = d.named; known = known } ∷ declared
with_known (suc index) known (d ∷ declared) = d ∷ with_known index known declared

-- the declaration of a module with a name: one that isn't read yet needs itself
abbrev pub of_module : List Named → Option ℕ → Meaning
of_module declared None = meanings.Undeclared
of_module declared (Some index) = cond (is_some (known_of declared index)) (meanings.Declared index) (meanings.Unread index)

abbrev pub inner_or : Option ℕ → Meaning → Meaning
inner_or None outer = outer
inner_or (Some index) outer = meanings.Local index

-- The innermost declaration of the function, else that of the module. What neither declares, WGSL may predeclare.
abbrev pub meaning : Context → List ℕ → Meaning
meaning c name = inner_or (named name (scope_view c.locals)) (of_module c.declared (get_by (λ key. slice_cmp nat_cmp name key.now) c.names))

abbrev pub meaning_at : Context → ℕ → Meaning
meaning_at c count = meaning c (word_in c count)

-- As a value

-- the declaration of a function with an index
abbrev pub local_of : Context → ℕ → Option Local
local_of c index = slice_get c.locals.locals.items index

-- a `continue` may skip its declaration
abbrev pub is_skipped : ℕ × ℕ → ℕ → Bool
is_skipped skipped index = nat_le skipped.0 index && nat_lt index skipped.1

-- `let`, `var`, a parameter
abbrev pub value_of_local : Context → ℕ → Option Typed
value_of_local c index = cond (is_skipped c.skipped index) None (option_and_then (λ l. l.bound.typed) (local_of c index))

-- `const`, `override`, `var`
abbrev pub value_of_known : Option Known → Option Typed
value_of_known (Some (knowns.Value x)) = Some x
value_of_known other = None

-- WGSL predeclares no value.
abbrev pub value_of : Context → Meaning → Option Typed
value_of c (meanings.Local index) = value_of_local c index
value_of c (meanings.Declared index) = value_of_known (known_of c.declared index)
value_of c other = None

-- its value, if it is computed
abbrev pub HasValue : Option Value → Outcome → Type 0
HasValue value (outcomes.Typed x) = x.value ≡ value
HasValue value other = ⊥

-- the same type and value, known at the same stage; what is no value, or has a fault, is faulty
abbrev pub IsValue : Option Typed → Outcome → Type 0
IsValue (Some x) o = HasType (view x.ty) x.stage x.referent o × HasValue x.value o
IsValue None o = o ≡ outcomes.Faulty

-- where it is declared, by the number of tokens up to the name there
abbrev pub declaration_of : Context → Meaning → Option ℕ
declaration_of c (meanings.Local index) = option_map (λ l. l.bound.named) (local_of c index)
declaration_of c (meanings.Declared index) = option_and_then (λ d. d.named) (slice_get c.declared index)
declaration_of c (meanings.Unread index) = option_and_then (λ d. d.named) (slice_get c.declared index)
declaration_of c meanings.Undeclared = None

abbrev pub IsMeant : Context → Meaning → Part → Type 0
IsMeant c m x = IsValue (value_of c m) x.outcome × (x.declared ≡ declaration_of c m)

-- the expression that a name is
abbrev pub IsNamed : Context → ℕ → Part → Type 0
IsNamed c count x = (x.place ≡ last_of count) × (x.may_be_dropped ≡ false) × IsMeant c (meaning_at c count) x

-- As a type

-- `struct`, `alias`
abbrev pub type_of_known : Option Known → Option WgslType
type_of_known (Some (knowns.Type ty)) = Some (view ty)
type_of_known other = None

-- A name of the function is no type.
abbrev pub type_of_meaning : Context → List ℕ → Meaning → Option WgslType
type_of_meaning c name (meanings.Declared index) = type_of_known (known_of c.declared index)
type_of_meaning c name meanings.Undeclared = type_predeclared c.extensions.f16 name
type_of_meaning c name other = None

-- the type that a name is without a template list
abbrev pub type_named : Context → ℕ → Option WgslType
type_named c count = type_of_meaning c (word_in c count) (meaning_at c count)
