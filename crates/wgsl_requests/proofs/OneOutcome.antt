-- Each text is one expression or none, each line asks one thing or none and has one reply, if every request has an answer.
use Rattle.wgsl_requests.proofs.Common.{◌+◌, ◌-◌, ◌&&◌, ◌||◌, ℕ, zero, suc, Bool, List, [], ◌∷◌, Option, Some, None, Ok, Err, true, false, length, map}
use Rattle.wgsl_requests.proofs.Common.{slice_get, slice_range, WgslType, Expression, WgslRequest, form_of, HasOne, behind, known, EachAnswered, one_answer}
use Rattle.wgsl_requests.proofs.Common.{End, Event, an_expression, Request, Token, Head, IsCalled, IsElement, IsMember, IsOutcome, Outcome, Parts, asked}
use Rattle.wgsl_requests.proofs.Common.{is_constant, member_in, operand, outcome_by, part_in, result_of, result_of_call, type_of_answer, asked_behind}
use Rattle.wgsl_requests.proofs.Common.{operand_token, Declared, Scope, Becomes, EndsIf, Given, Value, literal_of, with_given, overloads_of, one_of_line}
use Rattle.wgsl_requests.proofs.Common.{one_reply_of, word}
use Rattle.wgsl_standard.specs.forms.Concrete.{has_abstract_type}
use Rattle.wgsl_requests.specs.Requests.{index_of, member_of}
use Rattle.wgsl_reader.proofs.OneOutcome.{one_outcome as one_reading}
use Rattle.wgsl_reader.proofs.SomeOutcome.{some_outcome as some_reading}
use Rattle.wgsl_reader.specs.declared.grammar.Symbol.TheVariants as symbols
use Rattle.wgsl_reader.specs.Lists.{listed}
use Rattle.wgsl_reader.specs.Reading.{Outcome as Read, ReadAt, kind_of}
use Rattle.wgsl_reader.specs.Tokens.{Tokens, tokens_of}
use Rattle.wgsl_reader.specs.declared.mark.Mark.{Mark}
use Rattle.wgsl_reader.specs.declared.mark.Mark.TheVariants as m
use Rattle.wgsl_reader.specs.declared.rule.Rule.{Rule}
use Rattle.wgsl_spelling.specs.Names.{access_named, space_named}
use Rattle.wgsl_syntax.specs.Names.{named}
use Rattle.wgsl_requests.specs.expressions.Stack.{Changed, Membered, NumberedIfAny, attributes, member_in as member_within, struct_on, with_attribute, By, Call, Heading, Item, Next, On, Puts, Top, asked_on, call_on, heading_on, operand_on, place_on, with_operand, a_question, an_asked, an_overloads}
use Rattle.wgsl_requests.specs.expressions.Source.{head_noted, Source, byte_at, first_count, kind_at, noted, number_noted, text_at, type_noted}
use Rattle.wgsl_spelling.specs.Operators.{binary_of, unary_of}
use Rattle.wgsl_requests.specs.expressions.Statements.{Asked, assignment_of, statement_of, types_of, with_value, question_on, request_of}
use Rattle.wgsl_requests.specs.expressions.Typing.{Comes, IsAsked, IsTyped, LineIs, MovesBy, MovesIn, NotedBy, State, Steps, TextIs, TokensAre, closed_by, declaration_of, opened_by, AnswersAny, AnswersItem, AnswersParts, AnswersQuestion, IsReplyToText, IsStandardReply}
use Rattle.wgsl_requests.specs.declared.expressions.heading.Attribute.{Attribute}
use Rattle.wgsl_requests.specs.Replies.{ReplyText}
use Rattle.wgsl_requests.specs.declared.expressions.statement.Question.{Question}

-- parts, by the requests about them

one_part : (at : ℕ) (expression : WgslType → Expression) (given : Option WgslType) (request : WgslRequest) → HasOne EachAnswered (IsOutcome at expression given request)
one_part at expression given request = behind (one_answer request) (λ a. known (outcome_by at expression a (type_of_answer given a)))

one_member : (at : ℕ) (text : List ℕ) (x : Outcome) → HasOne EachAnswered (IsMember at text x)
one_member at text (Ok x) = one_part at (member_in x text) None (form_of (member_of (operand x) text))
one_member at text (Err e) = known _

one_element : (at : ℕ) (x i : Outcome) → HasOne EachAnswered (IsElement at x i)
one_element at (Ok x) (Ok i) = one_part at (part_in x (is_constant x && is_constant i)) None (form_of (index_of (operand x) (operand i)))
one_element at (Ok x) (Err e) = known _
one_element at (Err e) i = known _

one_call : (at : ℕ) (head : Head) (xs : Parts) → HasOne EachAnswered (IsCalled at head xs)
one_call at head (Ok xs) = one_part at (result_of head xs) (result_of_call head) (asked head xs)
one_call at head (Err e) = known _

-- what comes of items

abbrev GoesOn : Next → Type 0
GoesOn Then = (items : List Item) → HasOne EachAnswered (Then items)

on_top : {A : Type 0} (top : Top A) (Then : A → Next) → ((x : A) → GoesOn (Then x)) → HasOne EachAnswered (On top Then)
on_top None Then goes = known None
on_top (Some found) Then goes = goes found.0 found.1

by_any : {A : Type 0} (x : Option A) (Then : A → Next) → ((x : A) → GoesOn (Then x)) → GoesOn (By x Then)
by_any None Then goes items = known None
by_any (Some x) Then goes items = goes x items

puts : {Is : Outcome → Type 0} → HasOne EachAnswered Is → GoesOn (Puts Is)
puts one items = behind one (λ x. known (with_operand x items))

ends : (asks : Bool) (call : Call) → GoesOn (EndsIf asks call)
ends true call items = known _
ends false call items = puts (one_call call.at call.head call.parts) items

changed : (change : Heading → Heading) → GoesOn (Changed change)
changed change items = on_top (heading_on items) _ (λ h below. known _)

becomes : (change : Asked → Asked) → GoesOn (Becomes change)
becomes change items = on_top (asked_on items) _ (λ a below. known _)

numbered : (s : Source) (events : List Event) (which : Option Attribute) → GoesOn (NumberedIfAny s events which)
numbered s events None items = known _
numbered s events (Some which) items = by_any (number_noted s (slice_range events 1 (length events - 1))) _ (λ n. changed (with_attribute which n)) items

value : GoesOn Value
value items = on_top (operand_on items) _ (λ x. becomes (with_value x))

module _ (s : Source) (scope : Scope) where
  given : (is_const : Bool) (index : ℕ) → GoesOn (Given is_const s scope index)
  given is_const index items =
      on_top (place_on items) _ (λ from. by_any (type_noted s scope (noted s from index)) (λ t. with_given (is_const || has_abstract_type t.0) t.0) (λ t items. known _))

  membered : (index : ℕ) → GoesOn (Membered s scope index)
  membered index items =
      on_top (place_on items) _ (λ from below. on_top (place_on below) _ (λ name_at. by_any (type_noted s scope (noted s from index)) _
      (λ t below. on_top (heading_on below) _ (λ h. by_any (member_within (text_at s (first_count (noted s name_at from))) t.0 t.1 h) _ (λ h below. known _)))))

  steps : (index : ℕ) (mark : Mark) (count : ℕ) → GoesOn (Steps s scope index mark count)
  steps index m.Literal count items = by_any (slice_get s.tokens (count - 1)) (λ t. with_given true (literal_of s.text t)) (λ t items. known _) items
  steps index m.Open count items = on_top (place_on items) _ (λ from. by_any (head_noted s scope (noted s from index)) _ (λ head items. known _))
  steps index m.Argument count items = on_top (operand_on items) _ (λ x below. on_top (call_on below) _ (λ call below. known _))
  steps index m.Call count items = on_top (call_on items) _ (λ call. ends _ call)
  steps index m.MemberOf count items = on_top (operand_on items) _ (λ x. puts (one_member (byte_at s count) (text_at s count) x))
  steps index m.Element count items = on_top (operand_on items) _ (λ i below. on_top (place_on below) _ (λ at below. on_top (operand_on below) _ (λ x. puts (one_element at x i))))
  steps index m.Unary count items = on_top (operand_on items) _ (λ x below. on_top (place_on below) _ (λ count. by_any (unary_of (kind_at s count)) _ (λ o. ends _ _)))
  steps index m.Binary count items =
      on_top (operand_on items) _ (λ y below. on_top (place_on below) _ (λ count below. on_top (operand_on below) _ (λ x. by_any (binary_of (kind_at s count)) _ (λ o. ends _ _))))
  steps index m.Keyword count items = by_any (statement_of (kind_at s count)) _ (λ statement. by_any (types_of scope (kind_at s count)) _ (λ types items. known _)) items
  steps index m.AddressSpace count items = by_any (space_named (text_at s count)) _ (λ found. becomes _) items
  steps index m.AccessMode count items = by_any (access_named (text_at s count)) _ (λ found. becomes _) items
  steps index m.Typed count items = on_top (place_on items) _ (λ from. by_any (type_noted s scope (noted s from index)) _ (λ t. becomes _))
  steps index m.StructType count items = on_top (struct_on items) _ (λ t. becomes _)
  steps index m.Assign count items = on_top (operand_on items) _ (λ y below. on_top (operand_on below) _ (λ x below. known _))
  steps index m.AssignBy count items =
      on_top (operand_on items) _ (λ y below. on_top (place_on below) _ (λ count below. on_top (operand_on below) _ (λ x. by_any (assignment_of (text_at s count)) _ (λ o below. known _))))
  steps index m.Overloads count items = by_any (slice_get s.tokens (count - 1)) _ (λ t items. known _) items
  steps index m.Attribute count items = on_top (place_on items) _ (λ from. numbered s (noted s from index) (named attributes (text_at s (first_count (noted s from index)))))
  steps index m.Result count items = on_top (place_on items) _ (λ from. by_any (type_noted s scope (noted s from index)) _ (λ t. changed _))
  steps index m.Value count items = given false index items
  steps index m.Constant count items = given true index items
  steps index m.Initialized count items = value items
  steps index m.Condition count items = value items
  steps index m.Selector count items = value items
  steps index m.CaseSelector count items = value items
  steps index m.Returned count items = value items
  steps index m.Increment count items = on_top (operand_on items) _ (λ x below. known _)
  steps index m.Decrement count items = on_top (operand_on items) _ (λ x below. known _)
  steps index m.CallStatement count items = on_top (call_on items) _ (λ call below. known _)
  steps index m.Resolve count items = on_top (call_on items) _ (λ call below. known _)
  steps index m.Why count items = on_top (call_on items) _ (λ call below. known _)
  steps index m.Member count items = membered index items
  steps index m.Parameter count items = membered index items
  steps index other count items = known _

module _ (s : Source) where
  moves_by : (declare : Option (Heading → Declared)) (index : ℕ) (e : Event) (state : State) → HasOne EachAnswered (MovesBy declare s index e state)
  moves_by (Some declare) index e state = known _
  moves_by None index e state = behind (steps s state.0 index e.mark e.at state.1) (λ items. known _)

  moves : (opened index : ℕ) (e : Event) (state : State) → HasOne EachAnswered (MovesIn opened s index e state)
  moves zero index e state = moves_by (declaration_of e.mark) index e state
  moves (suc opened) index e state = known _

  comes : (opened index : ℕ) (events : List Event) (state : Option State) → HasOne EachAnswered (Comes s opened index state events)
  comes opened index [] state = known _
  comes opened index (e ∷ events) None = known _
  comes opened index (e ∷ events) (Some state) =
      let now = closed_by opened e.mark in behind (moves now index e state) (λ next. comes (opened_by now e.mark) (index + 1) events next)

noted_by : (scope : Scope) (text : List ℕ) (tokens : List Token) (read : Read) → HasOne EachAnswered (NotedBy scope text tokens read)
noted_by scope text tokens (Ok events) = comes (record { text = text; tokens = tokens; events = events }) 0 0 events (Some (scope, []))
noted_by scope text tokens (Err at) = known _

reading : (tokens : List Token) (rule : Rule) → HasOne EachAnswered (ReadAt (symbols.Rule rule ∷ []) 0 (map kind_of tokens))
reading tokens rule = record { once = λ q r f g. one_reading f g; some = λ answered. some_reading (symbols.Rule rule ∷ []) 0 (map kind_of tokens) }

tokens_are : (scope : Scope) (rule : Rule) (text : List ℕ) (tokens : List Token) → HasOne EachAnswered (TokensAre scope rule text tokens)
tokens_are scope rule text tokens = behind (reading tokens rule) (λ read. noted_by scope text tokens read)

line_is : (text : List ℕ) (tokens : Tokens) → HasOne EachAnswered (LineIs text tokens)
line_is text (Ok []) = known _
line_is text (Ok (t ∷ ts)) = behind (tokens_are [] Request text (asked_behind text End (t ∷ ts))) (λ item. known _)
line_is text (Err at) = known _

-- what a line asks
pub one_asked : (text : List ℕ) → HasOne EachAnswered (IsAsked text)
one_asked text = line_is text (listed (tokens_of text))

text_is : (scope : Scope) (text : List ℕ) (tokens : Tokens) → HasOne EachAnswered (TextIs scope text tokens)
text_is scope text (Ok tokens) = tokens_are scope an_expression text (map operand_token tokens)
text_is scope text (Err at) = known _

-- what a text is
pub one_outcome : (scope : Scope) (text : List ℕ) → HasOne EachAnswered (IsTyped scope text)
one_outcome scope text = behind (text_is scope text (listed (tokens_of text))) (λ item. known _)

one_of_question : (question : Question) (head : Head) (request : WgslRequest) → HasOne EachAnswered (AnswersQuestion question head request)
one_of_question question head request = behind (one_answer (question_on request question)) (λ a. known _)

one_of_parts : (Holds : List Expression → ReplyText → Type 0) → ((xs : List Expression) → HasOne EachAnswered (Holds xs)) → (xs : Parts) → HasOne EachAnswered (AnswersParts Holds xs)
one_of_parts Holds one (Ok xs) = one xs
one_of_parts Holds one (Err e) = known _

one_of_item : (line : List ℕ) (item : Item) → HasOne EachAnswered (AnswersItem line item)
one_of_item line (an_asked a) = one_of_parts _ (λ xs. one_reply_of (request_of a.statement a.types (map operand xs))) a.parts
one_of_item line (a_question question call) = one_of_parts _ (λ xs. one_of_question question call.head (asked call.head xs)) call.parts
one_of_item line (an_overloads token) = one_reply_of (Some (overloads_of (word line token)))
one_of_item line item = known _

one_of_any : (line : List ℕ) (item : Option (Option Item)) → HasOne EachAnswered (AnswersAny line item)
one_of_any line None = known _
one_of_any line (Some None) = known _
one_of_any line (Some (Some item)) = one_of_item line item

one_to_text : (line : List ℕ) → HasOne EachAnswered (IsReplyToText line)
one_to_text line = behind (one_asked line) (one_of_any line)

pub one_standard_reply : (line : List ℕ) → HasOne EachAnswered (IsStandardReply line)
one_standard_reply line = one_of_line (one_to_text line) line
