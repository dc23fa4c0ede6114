-- The parts of a declaration, by the events of the grammar: its name, its attributes, and what ends each part.
use Rattle.std.specs.Prelude.{◌≡◌, ◌≢◌, ℕ, zero, suc, ◌-◌, List, [], ◌∷◌, Bool, true, false, ◌&&◌, Option, Some, None, cond, drop, length, nat_eq, slice_get, slice_index_or, take}
use denote.Enum.Bare.{sameb}
use Rattle.wgsl_reader.specs.declared.kind.Kind.{Kind}
use Rattle.wgsl_reader.specs.declared.kind.Kind.TheVariants as k
use Rattle.wgsl_reader.specs.declared.mark.Mark.{Mark}
use Rattle.wgsl_reader.specs.declared.mark.Mark.TheVariants as m
use Rattle.wgsl_reader.specs.declared.read.Event.{Event}
use Rattle.wgsl_reader.specs.declared.token.Token.{Token}
use Rattle.wgsl_spelling.specs.Words.{word}
use Rattle.wgsl_source.specs.contracts.parts.End.{the_type as end_type}
use Rattle.wgsl_source.specs.declared.parts.End.{End}
use Rattle.wgsl_source.specs.declared.parts.End.TheVariants as e
use Rattle.wgsl_source.specs.declared.text.Text.{Text}

-- Tokens

-- behind the last token the text ends
abbrev pub end : Text → Token
end t = record { kind = k.End; at = length t.text.now; len = 0 }

abbrev pub token : Text → ℕ → Token
token t index = slice_index_or t.tokens.now index (end t)

-- the last of that many tokens: the one in front of an event
abbrev pub token_before : Text → ℕ → Token
token_before t zero = end t
token_before t (suc n) = token t n

-- how many tokens stand up to the first event, with its own
abbrev pub first_count : List Event → ℕ
first_count [] = 0
first_count (event ∷ events) = event.at

-- this name stands at this place: in front of the first of these events
pub record IsNamed (t : Text) (events : List Event) (text : List ℕ) (at : ℕ) : Type 0 where
  pub name : text ≡ word t.text.now (token_before t (first_count events))
  pub place : at ≡ (token_before t (first_count events)).at

-- Parts: each ends with an event of its own

abbrev pub end_of : Mark → Option End
end_of m.Attribute = Some e.Attribute
end_of m.Typed = Some e.Typed
end_of m.Member = Some e.Member
end_of m.Alias = Some e.Alias
end_of m.Struct = Some e.Struct
end_of m.Const = Some e.Constant
end_of m.Override = Some e.Override
end_of m.Variable = Some e.Variable
end_of m.Function = Some e.Function
end_of m.ConstAssert = Some e.Assertion
end_of m.Enable = Some e.Directive
end_of m.Requires = Some e.Directive
end_of m.DiagnosticDirective = Some e.Directive
end_of other = None

abbrev pub is_end : End → Option End → Bool
is_end end (Some other) = sameb end_type end other
is_end end None = false

-- one event more, if there are any
abbrev pub behind_one : ℕ → ℕ
behind_one zero = 0
behind_one (suc n) = suc (suc n)

-- how many events there are up to the first one that ends such a part, and with it; none if no event does
abbrev pub len_to : End → List Event → ℕ
len_to end [] = 0
len_to end (event ∷ events) = cond (is_end end (end_of event.mark)) 1 (behind_one (len_to end events))

abbrev pub without_last : List Event → List Event
without_last events = take (length events - 1) events

-- the events without the first and the last one
abbrev pub inner : List Event → List Event
inner [] = []
inner (event ∷ events) = without_last events

-- the events of the type that is declared behind a name; none if none is
abbrev pub declared_type : List Event → List Event
declared_type events = without_last (take (len_to e.Typed events) events)

-- the events of the value of a constant, behind its type
abbrev pub initializer : List Event → List Event
initializer events = drop (len_to e.Typed events) events

-- Attributes

abbrev pub is_diagnostic_mark : Mark → Bool
is_diagnostic_mark m.DiagnosticAttribute = true
is_diagnostic_mark other = false

abbrev pub is_diagnostic : Option Event → Bool
is_diagnostic None = false
is_diagnostic (Some event) = is_diagnostic_mark event.mark

-- `@diagnostic(off, a)`, `@diagnostic(off, a.b)`; none of a directive
abbrev pub diagnostic_len : List Event → ℕ
diagnostic_len events = cond (is_diagnostic (slice_get events 2)) 3 (cond (is_diagnostic (slice_get events 3)) 4 0)

abbrev pub attribute_by : Mark → List Event → ℕ
attribute_by m.AttributeName events = len_to e.Attribute events
attribute_by m.Severity events = diagnostic_len events
attribute_by m.Attribute events = 1
attribute_by other events = 0

-- how many events the attribute has that stands in front, if one does: `@size(16)`, `@const`
abbrev pub attribute_len : List Event → ℕ
attribute_len [] = 0
attribute_len (event ∷ events) = attribute_by event.mark (event ∷ events)

-- what stands behind the attributes in front
pub data BehindAttributes : List Event → List Event → Type 0 where
  no_attribute : {events : List Event} → attribute_len events ≡ 0 → BehindAttributes events events
  one_attribute : {events rest : List Event} → attribute_len events ≢ 0 → BehindAttributes (drop (attribute_len events) events) rest → BehindAttributes events rest

-- how many calls are open behind an event
abbrev pub calls_behind : ℕ → Mark → ℕ
calls_behind n m.Open = suc n
calls_behind n m.Call = n - 1
calls_behind n other = n

abbrev pub is_argument : Mark → Bool
is_argument m.Argument = true
is_argument other = false

-- how many events the argument in front has, with its end; none if there is none
abbrev pub argument_len : ℕ → List Event → ℕ
argument_len n [] = 0
argument_len n (event ∷ events) = cond (nat_eq n 0 && is_argument event.mark) 1 (behind_one (argument_len (calls_behind n event.mark) events))

-- Template lists

-- how many lists are unclosed behind an event
abbrev pub unclosed_behind : ℕ → Mark → ℕ
unclosed_behind n m.OpenTemplate = suc n
unclosed_behind n m.Template = n - 1
unclosed_behind n other = n

-- how many events there are up to the one behind which no list is unclosed, and with it
abbrev pub unclosed_len : ℕ → List Event → ℕ
unclosed_len n [] = 0
unclosed_len n (event ∷ events) = suc (cond (nat_eq (unclosed_behind n event.mark) 0) 0 (unclosed_len (unclosed_behind n event.mark) events))

abbrev pub list_by : Mark → List Event → ℕ
list_by m.OpenTemplate events = suc (unclosed_len 1 events)
list_by other events = 0

-- how many events the template list has that stands in front, if one does: `<storage, read>`
abbrev pub list_len : List Event → ℕ
list_len [] = 0
list_len (event ∷ events) = list_by event.mark events

-- Declarations, directives and assertions

-- what ends one, by the mark of its first event and the kind of the token in front of that: `struct S`, `var<private> x`
abbrev pub end_by : Mark → Kind → End
end_by m.Name k.Alias = e.Alias
end_by m.Name k.Struct = e.Struct
end_by m.Name k.Const = e.Constant
end_by m.Name k.Override = e.Override
end_by m.Name k.Var = e.Variable
end_by m.Name k.CloseTemplate = e.Variable
end_by m.Name k.Fn = e.Function
end_by m.Extension other = e.Directive
end_by m.Severity other = e.Directive
end_by mark other = e.Assertion

abbrev pub end_at : Text → List Event → End
end_at t [] = e.Assertion
end_at t (event ∷ events) = end_by event.mark (token_before t (event.at - 1)).kind

-- how many events one has from its first event on, behind its attributes and its list
abbrev pub declaration_len : Text → List Event → ℕ
declaration_len t events = len_to (end_at t events) events

-- where one stands: the events from its attributes on, from its template list on, and from its first event behind these on
pub record Site : Type 0 where
  pub attributes : List Event
  pub list : List Event
  pub first : List Event

-- one stands in front of these events
pub record IsSite (t : Text) (events : List Event) (site : Site) : Type 0 where
  pub begin : site.attributes ≡ events
  pub attributed : BehindAttributes events site.list
  pub listed : site.first ≡ drop (list_len site.list) site.list
  pub some : declaration_len t site.first ≢ 0

-- those that these events say, in order, up to where none begins
pub data AreSites (t : Text) : List Event → List Site → Type 0 where
  no_more : {events list : List Event} → BehindAttributes events list → declaration_len t (drop (list_len list) list) ≡ 0 → AreSites t events []
  one_more : {events : List Event} {site : Site} {others : List Site} → IsSite t events site
      → AreSites t (drop (declaration_len t site.first) site.first) others → AreSites t events (site ∷ others)
