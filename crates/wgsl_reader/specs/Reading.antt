-- What tokens are by the grammar.
use Rattle.std.specs.Prelude.{◌≡◌, ◌≢◌, ℕ, ◌+◌, List, [], ◌∷◌, ◌++◌, Some, None, Result, Ok, Err}
use Rattle.wgsl_reader.specs.Grammar.{production}
use Rattle.wgsl_reader.specs.declared.kind.Kind.{Kind}
use Rattle.wgsl_reader.specs.declared.kind.Kind.TheVariants as k
use Rattle.wgsl_reader.specs.declared.rule.Rule.{Rule}
use Rattle.wgsl_reader.specs.declared.mark.Mark.{Mark}
use Rattle.wgsl_reader.specs.declared.grammar.Symbol.{Symbol}
use Rattle.wgsl_reader.specs.declared.grammar.Symbol.TheVariants as s
use Rattle.wgsl_reader.specs.declared.read.Event.{Event}
use Rattle.wgsl_reader.specs.declared.token.Token.{Token}

-- of a token the grammar sees its kind alone
abbrev pub kind_of : Token → Kind
kind_of t = t.kind

abbrev pub next_kind : List Kind → Kind
next_kind [] = k.End
next_kind (kind ∷ kinds) = kind

-- the first token is of another kind, or there is none
abbrev pub IsOther : Kind → List Kind → Type 0
IsOther kind [] = Unit {0}
IsOther kind (other ∷ kinds) = other ≢ kind

-- what is noted, or the index of the first token that can't stand there
abbrev pub Outcome : Type 0
Outcome = Result (List Event) ℕ

abbrev pub with_event : Mark → ℕ → Outcome → Outcome
with_event mark at (Ok events) = Ok (record { mark = mark; at = at } ∷ events)
with_event mark at (Err index) = Err index

-- the outcome behind events that are noted before
abbrev pub with_events : List Event → Outcome → Outcome
with_events events (Ok more) = Ok (events ++ more)
with_events events (Err index) = Err index

-- What all tokens from an index on are by these symbols. `a;` by `Name Semicolon` is read; `a` and `a;;` are not.
pub data ReadAt : List Symbol → ℕ → List Kind → Outcome → Type 0 where
  all_read : (at : ℕ) → ReadAt [] at [] (Ok [])
  more_there : (at : ℕ) (kind : Kind) (kinds : List Kind) → ReadAt [] at (kind ∷ kinds) (Err at)
  token_read : {symbols : List Symbol} {at : ℕ} {kind next : Kind} {kinds : List Kind} {r : Outcome} →
      next ≡ kind → ReadAt symbols (at + 1) kinds r → ReadAt (s.Token kind ∷ symbols) at (next ∷ kinds) r
  other_token : {symbols : List Symbol} {at : ℕ} {kind : Kind} {kinds : List Kind} →
      IsOther kind kinds → ReadAt (s.Token kind ∷ symbols) at kinds (Err at)
  noted : {symbols : List Symbol} {at : ℕ} {mark : Mark} {kinds : List Kind} {r : Outcome} →
      ReadAt symbols at kinds r → ReadAt (s.Mark mark ∷ symbols) at kinds (with_event mark at r)
  rule_read : {symbols of_rule : List Symbol} {at : ℕ} {rule : Rule} {kinds : List Kind} {r : Outcome} →
      production rule (next_kind kinds) ≡ Some of_rule → ReadAt (of_rule ++ symbols) at kinds r → ReadAt (s.Rule rule ∷ symbols) at kinds r
  no_rule : {symbols : List Symbol} {at : ℕ} {rule : Rule} {kinds : List Kind} →
      production rule (next_kind kinds) ≡ None → ReadAt (s.Rule rule ∷ symbols) at kinds (Err at)

-- the outcome that the code returns
abbrev pub outcome_of : {V : Type 0} → (V → List Event) → Result V ℕ → Outcome
outcome_of items (Ok events) = Ok (items events)
outcome_of items (Err at) = Err at
