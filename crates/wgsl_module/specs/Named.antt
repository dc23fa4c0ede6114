-- What the declarations of a module name (WGSL, "Declaration and Scope").
use Rattle.std.specs.Prelude.{ℕ, suc, List, [], ◌∷◌, Bool, true, false, Option, Some, None, bytes_eq, cond, drop, nat_eq, option_map, slice_get}
use Rattle.std.specs.List.{cons_option}
use Rattle.wgsl_module.specs.Arguments.{takes_names}
use Rattle.wgsl_module.specs.Declarations.{Written}
use Rattle.wgsl_typing.specs.Names.{Context}
use Rattle.wgsl_typing.specs.Words.{kind_of_any, word_at}
use Rattle.wgsl_reader.specs.declared.kind.Kind.{Kind}
use Rattle.wgsl_reader.specs.declared.kind.Kind.TheVariants.{Colon}
use Rattle.wgsl_reader.specs.declared.mark.Mark.{Mark}
use Rattle.wgsl_reader.specs.declared.mark.Mark.TheVariants as m
use Rattle.wgsl_reader.specs.declared.read.Event.{Event}
use Rattle.wgsl_reader.specs.declared.token.Token.{Token}
use Rattle.wgsl_source.specs.Attributes.{attribute_names}
use Rattle.wgsl_syntax.specs.Names.{named}

-- a text, its tokens, and the index of the declaration that a name stands for
pub record Naming : Type 0 where
  pub text : List ℕ
  pub tokens : List Token
  pub declared : List ℕ → Option ℕ

-- Names in the brackets of some attributes are no expressions: `@builtin(position)`
abbrev pub are_words : Mark → List ℕ → Bool → Bool
are_words m.AttributeName name are = takes_names (named attribute_names name)
are_words m.Attribute name are = false
are_words other name are = are

abbrev pub is_own : Option ℕ → ℕ → Bool
is_own None count = false
is_own (Some own) count = nat_eq own count

abbrev pub is_colon : Kind → Bool
is_colon Colon = true
is_colon other = false

-- What stands in front of a colon is the name of a member or of a parameter.
abbrev pub used : Naming → Bool → ℕ → Option ℕ
used n true count = None
used n false count = n.declared (word_at n.text n.tokens count)

-- the declaration that an event names, but for the own name of the declaration that it is in
abbrev pub named_at : Naming → Mark → Option ℕ → Bool → ℕ → Option ℕ
named_at n m.Name own false count = cond (is_own own count) None (used n (is_colon (kind_of_any (slice_get n.tokens count))) count)
named_at n other own are count = None

-- the declarations that events name, one by one
abbrev pub named_in : Naming → Option ℕ → Bool → List Event → List ℕ
named_in n own are [] = []
named_in n own are (e ∷ events) = cons_option (named_at n e.mark own are e.at) (named_in n own (are_words e.mark (word_at n.text n.tokens e.at) are) events)

-- those that a declaration names from an event on
abbrev pub named_from : Naming → Option Written → ℕ → List ℕ
named_from n None at = []
named_from n (Some d) at = named_in n d.named false (drop at d.events)

-- In a module

abbrev pub is_called : List ℕ → List Token → List ℕ → Option ℕ → Bool
is_called text tokens name None = false
is_called text tokens name (Some count) = bytes_eq (word_at text tokens count) name

-- the first declaration that has a name
abbrev pub first_called : List ℕ → List Token → List Written → List ℕ → Option ℕ
first_called text tokens [] name = None
first_called text tokens (d ∷ ds) name = cond (is_called text tokens name d.named) (Some 0) (option_map suc (first_called text tokens ds name))

abbrev pub naming : List ℕ → List Token → List Written → Naming
naming text tokens ds = record { text = text; tokens = tokens; declared = first_called text tokens ds }

-- the declarations that the one with an index names
abbrev pub named_by : Context → List Written → ℕ → List ℕ
named_by c ds index = named_from (naming c.text c.tokens ds) (slice_get ds index) 0
