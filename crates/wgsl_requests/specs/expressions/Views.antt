-- How the code's expressions, heads and items are seen, and what readers answer: a value, or an error.
use Rattle.std.specs.Prelude.{◌≡◌, ℕ, List, Result, Ok, Err, Option, Some, None, map, option_map, reverse, string_bytes}
use Rattle.wgsl_requests.specs.expressions.Prelude.{parameter_view, WgslType, Answers, WgslAnswer, call_view as call_of, form_view, written_view, function, WgslRequest}
use Rattle.wgsl_requests.specs.expressions.Prelude.{fit_of, form_of, type_of, member_view, view, Token, a_unary, a_binary, a_function, a_constructor, Expression, Fail}
use Rattle.wgsl_core.specs.declared.error.Fail.TheVariants as fails
use Rattle.wgsl_core.specs.declared.ty.Type.{«Type»}
use Rattle.wgsl_requests.specs.expressions.Outcomes.{Head, Outcome, Refused, a_struct, declared, message_of, overloaded, type_of_answer, typed_array}
use Rattle.wgsl_requests.specs.expressions.Source.{Source, Declared, Meaning, Scope, a_function, a_type}
use Rattle.wgsl_requests.specs.expressions.Statements.{Asked}
use Rattle.wgsl_requests.specs.expressions.Stack.{Call, Heading, Item, Top, a_call, a_heading, a_place, a_question, an_asked, an_operand, an_overloads}
use Rattle.wgsl_requests.specs.expressions.Typing.{IsAsked, IsTyped, LineIs, State}
use Rattle.wgsl_requests.specs.declared.expressions.called.Called.{Called}
use Rattle.wgsl_requests.specs.declared.expressions.called.Called.TheVariants as calleds
use Rattle.wgsl_requests.specs.declared.expressions.heading.Heading.{Heading as CodeHeading}
use Rattle.wgsl_requests.specs.declared.expressions.scope.Declared.{Declared as CodeDeclared}
use Rattle.wgsl_requests.specs.declared.expressions.scope.Meaning.{Meaning as CodeMeaning}
use Rattle.wgsl_requests.specs.declared.expressions.scope.Meaning.TheVariants as meanings
use Rattle.wgsl_requests.specs.declared.expressions.scope.Scope.{Scope as CodeScope}
use Rattle.wgsl_requests.specs.declared.expressions.misread.Misread.{Misread}
use Rattle.wgsl_requests.specs.declared.expressions.outcome.Head.{Head as CodeHead}
use Rattle.wgsl_requests.specs.declared.expressions.outcome.Head.TheVariants as heads
use Rattle.wgsl_requests.specs.declared.expressions.source.Source.{Source as CodeSource}
use Rattle.wgsl_requests.specs.declared.expressions.outcome.Typed.{Typed}
use Rattle.wgsl_requests.specs.declared.expressions.outcome.Refused.{Refused as CodeRefused}
use Rattle.wgsl_requests.specs.declared.expressions.item.Asked.{Asked as CodeAsked}
use Rattle.wgsl_requests.specs.declared.expressions.item.Call.{Call as CodeCall}
use Rattle.wgsl_requests.specs.declared.expressions.item.Item.{Item as CodeItem}
use Rattle.wgsl_requests.specs.declared.expressions.item.Item.TheVariants as items

abbrev pub typed_view : Typed → Expression
typed_view x = record { of_type = view x.ty; is_constant = x.is_constant; referent = x.referent }

abbrev pub refused_view : CodeRefused → Refused
refused_view e = record { at = e.at; message = string_bytes e.message }

-- a value or an error, each as it is seen
abbrev pub shown : {A B C D : Type 0} → (A → C) → (B → D) → Result A B → Result C D
shown value error (Ok x) = Ok (value x)
shown value error (Err e) = Err (error e)

abbrev pub outcome_view : Result Typed CodeRefused → Outcome
outcome_view r = shown typed_view refused_view r

-- the type that was found, or the text in its place
abbrev pub found_outcome : ℕ → (WgslType → Expression) → Result WgslType (List ℕ) → Outcome
found_outcome at expression (Ok t) = Ok (expression t)
found_outcome at expression (Err text) = Err (record { at = at; message = text })

abbrev pub IsFoundIn : Option WgslType → WgslAnswer → Result WgslType (List ℕ) → Type 0
IsFoundIn result a (Ok t) = type_of_answer result a ≡ Some t
IsFoundIn result a (Err text) = (type_of_answer result a ≡ None) × (text ≡ message_of a)

-- what is answered to the request
abbrev pub IsFound : Option WgslType → WgslRequest → Result WgslType (List ℕ) → Type 0
IsFound result request found = (a : WgslAnswer) × Answers request a × IsFoundIn result a found

abbrev pub head_view : CodeHead → Head
head_view (heads.Unary o) = overloaded (a_unary o) None
head_view (heads.Binary o) = overloaded (a_binary o) None
head_view (heads.Constructor name ps) = overloaded (a_constructor (string_bytes name)) (option_map (λ ps. map parameter_view ps.items) ps)
head_view (heads.Function name ps) = overloaded (a_function (string_bytes name)) (option_map (λ ps. map parameter_view ps.items) ps)
head_view (heads.Array t n) = typed_array (view t) n
head_view (heads.Struct t) = a_struct (view t)
head_view (heads.Declared name ts result) = declared (string_bytes name) (map view ts.items) (option_map view result)

-- what is asked about a call
abbrev pub called_view : Called → WgslRequest
called_view (calleds.Overloaded call) = type_of (call_of call)
called_view (calleds.Form form) = form_of (form_view form)
called_view (calleds.Declared name values types) = fit_of (function name.now) (map written_view values.now) (map view types.now)

abbrev pub meaning_view : CodeMeaning → Meaning
meaning_view (meanings.Type t n) = a_type (view t) n
meaning_view (meanings.Function ts result) = a_function (map view ts.items) (option_map view result)

abbrev pub declared_view : CodeDeclared → Declared
declared_view d = record { name = string_bytes d.name; meaning = meaning_view d.meaning }

-- declared names, the last first
abbrev pub scope_view : CodeScope → Scope
scope_view s = map declared_view (reverse s.declared.items)

-- a value as `shown` shows it, or None where there is a fault
abbrev pub found : {A B F : Type 0} → (A → B) → Result A F → Option B
found shown (Ok x) = Some (shown x)
found shown (Err fault) = None

-- a type and how many types are inside it
abbrev pub type_found : {F : Type 0} → Result («Type» × ℕ) F → Option (WgslType × ℕ)
type_found r = found (λ t. (view t.0, t.1)) r

abbrev pub heading_view : CodeHeading → Heading
heading_view h = record {
  name = string_bytes h.name;
  members = map member_view h.members.items;
  inside = h.inside;
  size = h.size;
  align = h.align;
  result = option_map view h.result;
}

abbrev pub source_view : CodeSource → Source
source_view s = record { text = s.text.now; tokens = s.tokens.now; events = s.events.now }

abbrev pub call_view : CodeCall → Call
call_view call = record { at = call.at; head = head_view call.head; parts = shown (λ v. map typed_view v.items) refused_view call.parts }

abbrev pub asked_view : CodeAsked → Asked
asked_view a = record { statement = a.statement; types = map view a.types.items; parts = shown (λ v. map typed_view v.items) refused_view a.parts }

-- what was read, the last first
abbrev pub item_view : CodeItem → Item
item_view (items.Operand x) = an_operand (outcome_view x)
item_view (items.Place place) = a_place place
item_view (items.Call call) = a_call (call_view call)
item_view (items.Heading h) = a_heading (heading_view h)
item_view (items.Asked a) = an_asked (asked_view a)
item_view (items.Question question call) = a_question question (call_view call)
item_view (items.Overloads token) = an_overloads token

abbrev pub items_view : List CodeItem → List Item
items_view items = map item_view (reverse items)

-- not out of memory
abbrev pub IsMisread : Fail Misread → Type 0
IsMisread (fails.Error misread) = Unit {0}
IsMisread (fails.Memory e) = ⊥

-- the error is a misread one only if N holds; of memory nothing is said
abbrev pub Refuses : Type 0 → Fail Misread → Type 0
Refuses N (fails.Error misread) = N
Refuses N (fails.Memory e) = Unit {0}

-- P holds of the value, and the error is a misread one only if N holds
abbrev pub AnswersIn : {A : Type 0} → (A → Type 0) → Type 0 → Result A (Fail Misread) → Type 0
AnswersIn P N (Ok x) = P x
AnswersIn P N (Err e) = Refuses N e

-- what was taken from the top, and the items below; the error is a misread one only if it isn't there
abbrev pub Takes : {A B : Type 0} → (A → B) → Top B → List CodeItem → Result A (Fail Misread) → Type 0
Takes view found after r = AnswersIn (λ x. found ≡ Some (view x, items_view after)) (found ≡ None) r

-- the items that come of others; the error is a misread one only if there is no expression
abbrev pub Does : (Option (List Item) → Type 0) → List CodeItem → Result (Unit {0}) (Fail Misread) → Type 0
Does Is after r = AnswersIn (λ done. Is (Some (items_view after))) (Is None) r

-- the names and the items that come of others
abbrev pub Moves : (Option State → Type 0) → CodeScope → List CodeItem → Result (Unit {0}) (Fail Misread) → Type 0
Moves Is scope items r = AnswersIn (λ done. Is (Some (scope_view scope, items_view items))) (Is None) r

-- the item that was found, or None where the error is a misread one
abbrev pub Finds : (Option Item → Type 0) → Result CodeItem (Fail Misread) → Type 0
Finds IsIt r = AnswersIn (λ item. IsIt (Some (item_view item))) (IsIt None) r

-- what a line asks, if it has tokens; the error is a misread one only if it is no request
abbrev pub AsksIn : List ℕ → List Token → Result (Option CodeItem) (Fail Misread) → Type 0
AsksIn line tokens r = AnswersIn (λ item. LineIs line (Ok tokens) (Some (option_map item_view item))) (LineIs line (Ok tokens) None) r

abbrev pub IsAskedLine : List ℕ → Result (Option CodeItem) (Fail Misread) → Type 0
IsAskedLine line r = AnswersIn (λ item. IsAsked line (Some (option_map item_view item))) (IsAsked line None) r

-- the outcome that was found, or None where the error is a misread one
abbrev pub IsTypedText : Scope → List ℕ → Result (Result Typed CodeRefused) (Fail Misread) → Type 0
IsTypedText scope text r = AnswersIn (λ x. IsTyped scope text (Some (outcome_view x))) (IsTyped scope text None) r
