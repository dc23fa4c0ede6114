-- The type that a text spells: what the events of the rule `Type` say, one by one.
use Rattle.std.specs.Prelude.{◌≡◌, ℕ, ◌-◌, List, [], ◌∷◌, Bool, Option, Some, None, Ok, Err, codes, cond, map, slice_index_or}
use Rattle.std.specs.Str.{bytes_eq}
use Rattle.wgsl_reader.specs.Reading.{Outcome, ReadAt, kind_of}
use Rattle.wgsl_reader.specs.Lists.{listed}
use Rattle.wgsl_reader.specs.Tokens.{Tokens, tokens_of}
use Rattle.wgsl_reader.specs.declared.kind.Kind.TheVariants as k
use Rattle.wgsl_reader.specs.declared.mark.Mark.{Mark}
use Rattle.wgsl_reader.specs.declared.mark.Mark.TheVariants as mark
use Rattle.wgsl_reader.specs.declared.grammar.Symbol.TheVariants.{Rule as rule}
use Rattle.wgsl_reader.specs.declared.read.Event.{Event}
use Rattle.wgsl_reader.specs.declared.rule.Rule.TheVariants as rules
use Rattle.wgsl_reader.specs.declared.token.Token.{Token}
use Rattle.wgsl_rules.specs.types.Types.{WgslType}
use Rattle.wgsl_constants.specs.Literals.{then}
use Rattle.wgsl_constants.specs.Values.{map_value}
use Rattle.wgsl_spelling.specs.Calls.{argued, called_item, member, opened}
use Rattle.wgsl_spelling.specs.Chains.{Chain, begin, push, type_of, with_type}
use Rattle.wgsl_spelling.specs.Items.{is_value, item}
use Rattle.wgsl_spelling.specs.Templates.{bitcast, last_list, listed_in}
use Rattle.wgsl_spelling.specs.Values.{binary, count, literal, unary}
use Rattle.wgsl_spelling.specs.Words.{word}
use Rattle.wgsl_spelling.specs.declared.item.Item.{Item}
use Rattle.wgsl_spelling.specs.declared.item.Value.TheVariants as v
use Rattle.wgsl_spelling.specs.declared.list.Listed.{Listed}
use Rattle.wgsl_spelling.specs.declared.list.Listed.TheVariants as listed_as
use Rattle.wgsl_spelling.specs.declared.list.TemplateList.{TemplateList}

-- what is read so far: items, the last first, and a type in parts
pub record State : Type 0 where
  pub items : List Item
  pub chain : Chain

abbrev pub state : List Item → Chain → State
state items chain = record { items = items; chain = chain }

abbrev pub no_token : Token
no_token = record { kind = k.End; at = 0; len = 0 }

-- the token in front of an event
abbrev pub token_before : List Token → ℕ → Token
token_before tokens at = slice_index_or tokens (at - 1) no_token

abbrev pub with_item : Item → State → State
with_item i s = state (i ∷ s.items) s.chain

-- a list is a type from here on
abbrev pub with_listed : List ℕ → Listed → Chain → Option Chain
with_listed text (listed_as.Leaf leaf) c = begin leaf c
with_listed text (listed_as.Around layer i) c = then (with_type text i c) (push layer)

abbrev pub with_type_list : List ℕ → Chain → TemplateList × List Item → Option State
with_type_list text c found =
    then (listed_in text found.0) (λ l. map_value (state (item found.0.name v.Type ∷ found.1)) (with_listed text l c))

abbrev pub with_bitcast : List ℕ → Chain → TemplateList × List Item → Option State
with_bitcast text c found =
    map_value (λ f. state (item found.0.name (v.Function f) ∷ found.1) c) (bitcast text found.0.parameters)

abbrev pub is_bitcast : List ℕ → Bool
is_bitcast name = bytes_eq name (codes "bitcast")

abbrev pub closed_list : List ℕ → Chain → TemplateList × List Item → Option State
closed_list text c found =
    cond (is_bitcast (word text found.0.name)) (with_bitcast text c found) (with_type_list text c found)

-- behind the `>` of a list
abbrev pub closed : List ℕ → State → Option State
closed text s = then (last_list s.items) (closed_list text s.chain)

abbrev pub with_unary : Chain → List Item → Option State
with_unary c (operand ∷ operator ∷ items) = map_value (λ i. state (i ∷ items) c) (unary operator operand)
with_unary c few = None

abbrev pub with_binary : Chain → List Item → Option State
with_binary c (right ∷ operator ∷ left ∷ items) = map_value (λ i. state (i ∷ items) c) (binary left operator right)
with_binary c few = None

-- only what has a value stands in brackets
abbrev pub with_brackets : Chain → List Item → Option State
with_brackets c (inside ∷ items) = cond (is_value inside.value) (Some (state (inside ∷ items) c)) None
with_brackets c [] = None

abbrev pub with_open : List ℕ → Chain → List Item → Option State
with_open text c (callee ∷ items) = map_value (λ i. state (i ∷ items) c) (opened text callee)
with_open text c [] = None

abbrev pub with_argument : Chain → List Item → Option State
with_argument c (last ∷ call ∷ items) = map_value (λ i. state (i ∷ items) c) (argued call last)
with_argument c few = None

abbrev pub with_call : Chain → List Item → Option State
with_call c (call ∷ items) = map_value (λ i. state (i ∷ items) c) (called_item call)
with_call c [] = None

abbrev pub with_member : List ℕ → Chain → List Item → Option State
with_member letter c (x ∷ items) = map_value (λ i. state (i ∷ items) c) (member letter x)
with_member letter c [] = None

-- what an event adds, behind this token
abbrev pub step_by : List ℕ → Token → State → Mark → Option State
step_by text t s mark.Name = Some (with_item (item t v.Name) s)
step_by text t s mark.OpenTemplate = Some (with_item (item t (v.Sign t.kind)) s)
step_by text t s mark.Operator = Some (with_item (item t (v.Sign t.kind)) s)
step_by text t s mark.Literal = map_value (λ x. with_item (item t (v.Constant x)) s) (literal text t)
step_by text t s mark.Template = closed text s
step_by text t s mark.Unary = with_unary s.chain s.items
step_by text t s mark.Binary = with_binary s.chain s.items
step_by text t s mark.Brackets = with_brackets s.chain s.items
step_by text t s mark.Value = Some s
step_by text t s mark.Open = with_open text s.chain s.items
step_by text t s mark.Argument = with_argument s.chain s.items
step_by text t s mark.Call = with_call s.chain s.items
step_by text t s mark.MemberOf = with_member (word text t) s.chain s.items
step_by text t s other = None

abbrev pub step : List ℕ → List Token → State → Event → Option State
step text tokens s e = step_by text (token_before tokens e.at) s e.mark

-- the state behind events
abbrev pub behind : List ℕ → List Token → State → List Event → Option State
behind text tokens s [] = Some s
behind text tokens s (e ∷ es) = then (step text tokens s e) (λ next. behind text tokens next es)

abbrev pub only : List Item → Option Item
only (i ∷ []) = Some i
only other = None

-- the chain of the only item
abbrev pub end : List ℕ → State → Option Chain
end text s = then (only s.items) (λ i. with_type text i s.chain)

abbrev pub nothing : State
nothing = state [] (record { leaf = None; layers = [] })

-- the type in parts that events say; its leaf may be a name that isn't predeclared
abbrev pub chain_of_events : List ℕ → List Token → List Event → Option Chain
chain_of_events text tokens events = then (behind text tokens nothing events) (end text)

-- the type that events say
abbrev pub type_of_events : List ℕ → List Token → List Event → Option WgslType
type_of_events text tokens events = then (chain_of_events text tokens events) type_of

-- the number, at least 0, that events say
abbrev pub count_of_events : List ℕ → List Token → List Event → Option ℕ
count_of_events text tokens events = then (behind text tokens nothing events) (λ s. then (only s.items) count)

abbrev pub type_of_outcome : List ℕ → List Token → Outcome → Option WgslType
type_of_outcome text tokens (Ok events) = type_of_events text tokens events
type_of_outcome text tokens (Err at) = None

-- tokens of a text spell this type, or none: what WGSL's grammar reads in them says so
pub record TokensSpell (text : List ℕ) (tokens : List Token) (found : Option WgslType) : Type 0 where
  pub outcome : Outcome
  pub read : ReadAt (rule rules.Type ∷ []) 0 (map kind_of tokens) outcome
  pub is : found ≡ type_of_outcome text tokens outcome

abbrev pub SpellsBy : List ℕ → Tokens → Option WgslType → Type 0
SpellsBy text (Ok tokens) found = TokensSpell text tokens found
SpellsBy text (Err at) found = found ≡ None

-- a text spells this type, or none
abbrev pub Spells : List ℕ → Option WgslType → Type 0
Spells text found = SpellsBy text (listed (tokens_of text)) found
