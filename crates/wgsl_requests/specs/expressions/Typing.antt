-- What a text is, by what its reading notes, an expression or a request, and what is replied to a line.
use Rattle.std.specs.Prelude.{◌≡◌, ℕ, zero, suc, ◌+◌, ◌-◌, List, [], ◌∷◌, Option, Some, None, Ok, Err, false, true, map, option_and_then, option_map, IsUtf8, ◌++◌, codes}
use Rattle.std.specs.Prelude.{decimal}
use Rattle.wgsl_requests.specs.expressions.Prelude.{listed, Tokens, tokens_of, End, Mark, Event, Token, wgsl_spelling, Expression, shown_type, Answers, WgslAnswer}
use Rattle.wgsl_requests.specs.expressions.Prelude.{WgslRequest, overloads_of, text_kind, word, Question}
use Rattle.wgsl_reader.specs.Reading.{Outcome as Read, ReadAt, kind_of}
use Rattle.wgsl_reader.specs.declared.grammar.Symbol.TheVariants as s
use Rattle.wgsl_reader.specs.declared.mark.Mark.TheVariants as m
use Rattle.wgsl_reader.specs.declared.rule.Rule.{Rule}
use Rattle.wgsl_reader.specs.declared.rule.Rule.TheVariants.{Expression as an_expression, Request}
use Rattle.wgsl_requests.specs.expressions.Stack.{Attributed, Headed, Membered, Resulted, declared_by, function_declared, struct_declared, Heading, Item, Next, a_place, an_operand, a_question, an_asked, an_overloads}
use Rattle.wgsl_requests.specs.expressions.Outcomes.{Outcome, Head, Parts, asked, operand}
use Rattle.wgsl_requests.specs.expressions.RequestTokens.{asked_behind, operand_token}
use Rattle.wgsl_requests.specs.expressions.Source.{Declared, Scope, Source, byte_at}
use Rattle.wgsl_requests.specs.declared.expressions.statement.Question.TheVariants as q
use Rattle.wgsl_requests.specs.expressions.Steps.{Annotated, Argument, Asks, Assigns, AssignsBy, Begun, Binary, Calls, Element, Given, InSpace, Increments, Literal, Member, Opens, Overloads, Unary, Value, WithAccess, WithStruct}
use Rattle.wgsl_requests.specs.Replies.{IsReplyOf, OfLine, ReplyText, answer, nothing, unreadable}
use Rattle.wgsl_requests.specs.declared.reply.TextKind.{TextKind}
use Rattle.wgsl_requests.specs.declared.reply.TextKind.TheVariants as kinds
use Rattle.wgsl_requests.specs.expressions.Statements.{question_on, request_of, told}

-- what is done where something is noted at an index, behind this many tokens, with the names of a scope
abbrev pub Steps : Source → Scope → ℕ → Mark → ℕ → Next
Steps s scope index m.Literal count items r = Literal s count items r
Steps s scope index m.Name count items r = r ≡ Some (a_place index ∷ items)
Steps s scope index m.AttributeName count items r = r ≡ Some (a_place index ∷ items)
Steps s scope index m.Value count items r = Given false s scope index items r
Steps s scope index m.Constant count items r = Given true s scope index items r
Steps s scope index m.Open count items r = Opens s scope index items r
Steps s scope index m.OpenElement count items r = r ≡ Some (a_place (byte_at s count) ∷ items)
Steps s scope index m.Argument count items r = Argument items r
Steps s scope index m.Call count items r = Calls s index items r
Steps s scope index m.MemberOf count items r = Member s count items r
Steps s scope index m.Element count items r = Element items r
Steps s scope index m.Operator count items r = r ≡ Some (a_place count ∷ items)
Steps s scope index m.Unary count items r = Unary s index items r
Steps s scope index m.Binary count items r = Binary s index items r
Steps s scope index m.Keyword count items r = Begun s scope count items r
Steps s scope index m.AddressSpace count items r = InSpace s count items r
Steps s scope index m.AccessMode count items r = WithAccess s count items r
Steps s scope index m.Typed count items r = Annotated s scope index items r
Steps s scope index m.StructType count items r = WithStruct items r
Steps s scope index m.Initialized count items r = Value items r
Steps s scope index m.Condition count items r = Value items r
Steps s scope index m.Selector count items r = Value items r
Steps s scope index m.CaseSelector count items r = Value items r
Steps s scope index m.Returned count items r = Value items r
Steps s scope index m.Assign count items r = Assigns items r
Steps s scope index m.AssignBy count items r = AssignsBy s items r
Steps s scope index m.Increment count items r = Increments items r
Steps s scope index m.Decrement count items r = Increments items r
Steps s scope index m.CallStatement count items r = Asks q.Type items r
Steps s scope index m.Resolve count items r = Asks q.Resolution items r
Steps s scope index m.Why count items r = Asks q.Explanation items r
Steps s scope index m.Overloads count items r = Overloads s count items r
Steps s scope index m.Heading count items r = Headed s count items r
Steps s scope index m.Attribute count items r = Attributed s index items r
Steps s scope index m.Member count items r = Membered s scope index items r
Steps s scope index m.Parameter count items r = Membered s scope index items r
Steps s scope index m.Result count items r = Resulted s scope index items r
-- `(a)` is what `a` is
Steps s scope index other count items r = r ≡ Some items

-- the names that are declared, and the items
abbrev pub State : Type 0
State = Scope × List Item

-- what is declared where something is noted
abbrev pub declaration_of : Mark → Option (Heading → Declared)
declaration_of m.Struct = Some struct_declared
declaration_of m.Function = Some function_declared
declaration_of other = None

abbrev pub MovesBy : Option (Heading → Declared) → Source → ℕ → Event → State → Option State → Type 0
MovesBy (Some declare) s index e state r = r ≡ declared_by declare state.0 state.1
MovesBy None s index e state r = (items : Option (List Item)) × Steps s state.0 index e.mark e.at state.1 items × (r ≡ option_map (λ items. (state.0, items)) items)

-- In a list nothing is done: a name has its list.
abbrev pub MovesIn : ℕ → Source → ℕ → Event → State → Option State → Type 0
MovesIn zero s index e state r = MovesBy (declaration_of e.mark) s index e state r
MovesIn (suc opened) s index e state r = r ≡ Some state

-- how many lists are open behind the end of a template list or of an attribute, and behind the beginning of one
abbrev pub closed_by : ℕ → Mark → ℕ
closed_by opened m.Template = opened - 1
closed_by opened m.Attribute = opened - 1
closed_by opened other = opened

abbrev pub opened_by : ℕ → Mark → ℕ
opened_by opened m.OpenTemplate = opened + 1
opened_by opened m.AttributeName = opened + 1
opened_by opened other = opened

-- the one item that is left
abbrev pub whole : List Item → Option Item
whole (item ∷ []) = Some item
whole items = None

-- what comes of names and items by what is noted from an index on, where this many lists are open
abbrev pub Comes : Source → ℕ → ℕ → Option State → List Event → Option Item → Type 0
Comes s opened index state [] r = r ≡ option_and_then (λ state. whole state.1) state
Comes s opened index None (e ∷ events) r = r ≡ None
Comes s opened index (Some state) (e ∷ events) r = (next : Option State) ×
    MovesIn (closed_by opened e.mark) s index e state next × Comes s (opened_by (closed_by opened e.mark) e.mark) (index + 1) next events r

abbrev pub NotedBy : Scope → List ℕ → List Token → Read → Option Item → Type 0
NotedBy scope text tokens (Err at) r = r ≡ None
NotedBy scope text tokens (Ok events) r = Comes (record { text = text; tokens = tokens; events = events }) 0 0 (Some (scope, [])) events r

-- what the tokens are by the grammar, and what comes of what is noted
abbrev pub TokensAre : Scope → Rule → List ℕ → List Token → Option Item → Type 0
TokensAre scope rule text tokens r = (read : Read) × ReadAt (s.Rule rule ∷ []) 0 (map kind_of tokens) read × NotedBy scope text tokens read r

abbrev pub outcome_in : Option Item → Option Outcome
outcome_in (Some (an_operand x)) = Some x
outcome_in other = None

abbrev pub TextIs : Scope → List ℕ → Tokens → Option Item → Type 0
TextIs scope text (Err at) r = r ≡ None
TextIs scope text (Ok tokens) r = TokensAre scope an_expression text (map operand_token tokens) r

-- All of a text is an expression, with the names of a scope, and this is its outcome; None if it is none.
abbrev pub IsTyped : Scope → List ℕ → Option Outcome → Type 0
IsTyped scope text r = (item : Option Item) × TextIs scope text (listed (tokens_of text)) item × (r ≡ outcome_in item)

-- the tokens of a line; None if it has none
abbrev pub LineIs : List ℕ → Tokens → Option (Option Item) → Type 0
LineIs text (Err at) r = r ≡ None
LineIs text (Ok []) r = r ≡ Some None
LineIs text (Ok (t ∷ ts)) r = (item : Option Item) × TokensAre [] Request text (asked_behind text End (t ∷ ts)) item × (r ≡ option_map Some item)

-- All of a line is a request, or has no tokens: then there is no item in it. None if it is no request.
abbrev pub IsAsked : List ℕ → Option (Option Item) → Type 0
IsAsked text r = LineIs text (listed (tokens_of text)) r

-- the outcome of an expression: `vec3<f32>`, or ``column 12: no overload of `+` takes (bool, i32)``
abbrev pub outcome_kind : Outcome → TextKind
outcome_kind (Ok x) = kinds.Answer
outcome_kind (Err e) = kinds.Refusal

abbrev pub outcome_text : Outcome → List ℕ
outcome_text (Ok x) = wgsl_spelling (shown_type x)
outcome_text (Err e) = codes "column " ++ (decimal (e.at + 1) ++ (codes ": " ++ e.message))

abbrev pub reply_to : Outcome → ReplyText
reply_to x = answer (outcome_kind x) (outcome_text x)

-- what holds of the reply with these values, or the first of their parts that has no type
abbrev pub AnswersParts : (List Expression → ReplyText → Type 0) → Parts → ReplyText → Type 0
AnswersParts Holds (Ok xs) reply = Holds xs reply
AnswersParts Holds (Err e) reply = reply ≡ reply_to (Err e)

-- what is told of a call of which this asks the type
abbrev pub AnswersQuestion : Question → Head → WgslRequest → ReplyText → Type 0
AnswersQuestion question head request reply =
    (a : WgslAnswer) × Answers (question_on request question) a × (reply ≡ answer (text_kind a) (told question head a))

-- the reply to what a line asks
abbrev pub AnswersItem : List ℕ → Item → ReplyText → Type 0
AnswersItem line (an_operand x) reply = reply ≡ reply_to x
AnswersItem line (an_asked a) reply = AnswersParts (λ xs. IsReplyOf (request_of a.statement a.types (map operand xs))) a.parts reply
AnswersItem line (a_question question call) reply = AnswersParts (λ xs. AnswersQuestion question call.head (asked call.head xs)) call.parts reply
AnswersItem line (an_overloads token) reply = IsReplyOf (Some (overloads_of (word line token))) reply
AnswersItem line other reply = reply ≡ unreadable

-- the reply to a line that has tokens, or has none, or is no request
abbrev pub AnswersAny : List ℕ → Option (Option Item) → ReplyText → Type 0
AnswersAny line None reply = reply ≡ unreadable
AnswersAny line (Some None) reply = reply ≡ nothing
AnswersAny line (Some (Some item)) reply = AnswersItem line item reply

-- the reply to a line in WGSL
abbrev pub IsReplyToText : List ℕ → ReplyText → Type 0
IsReplyToText line reply = (item : Option (Option Item)) × IsAsked line item × AnswersAny line item reply

-- the reply to the bytes of a line by WGSL's own rules
abbrev pub IsStandardReply : List ℕ → ReplyText → Type 0
IsStandardReply line reply = OfLine (IsReplyToText line) line reply

-- a text without tokens
abbrev pub IsBlank : List ℕ → Type 0
IsBlank line = IsUtf8 line × (listed (tokens_of line) ≡ Ok [])
