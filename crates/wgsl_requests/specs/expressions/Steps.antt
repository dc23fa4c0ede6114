-- What is done with what was read, by what is noted.
use Rattle.std.specs.Prelude.{◌≡◌, ℕ, ◌-◌, List, [], ◌∷◌, Some, None, Ok, Bool, false, true, ◌||◌, length, slice_get}
use Rattle.wgsl_requests.specs.expressions.Prelude.{WgslType, scalar, Expression, Whole, Mark, Event, Token, word, a_binary, a_unary, AssignmentOperator, Question}
use Rattle.wgsl_standard.specs.forms.Concrete.{has_abstract_type}
use Rattle.wgsl_reader.specs.declared.mark.Mark.TheVariants as m
use Rattle.wgsl_spelling.specs.Names.{access_named, space_named}
use Rattle.wgsl_syntax.specs.declared.operator.AssignmentOperator.TheVariants.{Equal}
use Rattle.wgsl_requests.specs.expressions.Stack.{struct_on, By, Call, Next, On, Puts, a_call, a_question, an_asked, an_overloads, asked_on, call_on, operand_on, place_on, with_operand}
use Rattle.wgsl_spelling.specs.Values.{type_of_literal}
use Rattle.wgsl_requests.specs.expressions.Source.{head_noted, Scope, Source, byte_at, first_count, kind_at, noted, text_at, type_noted}
use Rattle.wgsl_spelling.specs.Operators.{binary_of, unary_of}
use Rattle.wgsl_requests.specs.expressions.Outcomes.{Head, IsCalled, IsElement, IsMember, Outcome, Parts, no_parts, overloaded, with_part}
use Rattle.wgsl_requests.specs.expressions.Statements.{Asked, assignment_of, stated, statement_of, types_of, with_access, with_space, with_type, with_value}
use Rattle.wgsl_requests.specs.declared.expressions.statement.Statement.{Statement}
use Rattle.wgsl_requests.specs.declared.expressions.statement.Statement.TheVariants as statements

-- an operand that is given by its type
abbrev pub given : Bool → WgslType → Expression
given is_constant t = record { of_type = t; is_constant = is_constant; referent = Whole }

abbrev pub with_given : Bool → WgslType → Next
with_given is_constant t items r = r ≡ with_operand (Ok (given is_constant t)) items

abbrev pub literal_of : List ℕ → Token → WgslType
literal_of text t = scalar (type_of_literal t.kind (word text t))

-- `1.5`, `true`
abbrev pub Literal : Source → ℕ → Next
Literal s count items r = By (slice_get s.tokens (count - 1)) (λ t. with_given true (literal_of s.text t)) items r

-- `f32`, `const f32`: a type in place of a value, noted from the name on. It is a const-expression if that is said, or if the type
-- is abstract.
abbrev pub Given : Bool → Source → Scope → ℕ → Next
Given is_const s scope index items r = On (place_on items) (λ from. By (type_noted s scope (noted s from index))
    (λ t. with_given (is_const || has_abstract_type t.0) t.0)) r

abbrev pub call_with : ℕ → Head → Parts → Call
call_with at head parts = record { at = at; head = head; parts = parts }

-- the `(` behind what is called by the name that is noted with its list
abbrev pub Opens : Source → Scope → ℕ → Next
Opens s scope index items r = On (place_on items) (λ from. By (head_noted s scope (noted s from index))
    (λ head items r. r ≡ Some (a_call (call_with (byte_at s (first_count (noted s from index))) head no_parts) ∷ items))) r

-- one more argument
abbrev pub with_argument : Outcome → Call → Call
with_argument x call = record { at = call.at; head = call.head; parts = with_part call.parts x }

abbrev pub Argument : Next
Argument items r = On (operand_on items) (λ x below. On (call_on below) (λ call below r. r ≡ Some (a_call (with_argument x call) ∷ below))) r

-- the next event, but for brackets, asks about what is in front of it
abbrev pub asks_mark : Mark → Bool → Bool
asks_mark m.Brackets behind = behind
asks_mark m.Resolve behind = true
asks_mark m.Why behind = true
asks_mark m.CallStatement behind = true
asks_mark other behind = false

abbrev pub asks_call : List Event → Bool
asks_call [] = false
asks_call (e ∷ events) = asks_mark e.mark (asks_call events)

-- behind the event of a call
abbrev pub asks_behind : List Event → Bool
asks_behind [] = false
asks_behind (call ∷ events) = asks_call events

abbrev pub EndsIf : Bool → Call → Next
EndsIf true call items r = r ≡ Some (a_call call ∷ items)
EndsIf false call items r = Puts (IsCalled call.at call.head call.parts) items r

-- a call with all of its operands: its type, but if something is asked about the call itself
abbrev pub Ends : Source → ℕ → Call → Next
Ends s index call items r = EndsIf (asks_behind (noted s index (length s.events))) call items r

-- `f(a, b)`
abbrev pub Calls : Source → ℕ → Next
Calls s index items r = On (call_on items) (Ends s index) r

-- `a.x`
abbrev pub Member : Source → ℕ → Next
Member s count items r = On (operand_on items) (λ x. Puts (IsMember (byte_at s count) (text_at s count) x)) r

-- `a[i]`
abbrev pub Element : Next
Element items r = On (operand_on items) (λ i below. On (place_on below) (λ at below. On (operand_on below) (λ x. Puts (IsElement at x i)))) r

-- `-a`
abbrev pub Unary : Source → ℕ → Next
Unary s index items r = On (operand_on items) (λ x below. On (place_on below) (λ count. By (unary_of (kind_at s count))
    (λ o. Ends s index (call_with (byte_at s count) (overloaded (a_unary o) None) (with_part no_parts x))))) r

-- `a + b`
abbrev pub Binary : Source → ℕ → Next
Binary s index items r = On (operand_on items) (λ y below. On (place_on below) (λ count below. On (operand_on below) (λ x. By (binary_of (kind_at s count))
    (λ o. Ends s index (call_with (byte_at s count) (overloaded (a_binary o) None) (with_part (with_part no_parts x) y)))))) r

-- `let`, `if`, `size`: what begins a request
abbrev pub Begun : Source → Scope → ℕ → Next
Begun s scope count items r = By (statement_of (kind_at s count)) (λ statement. By (types_of scope (kind_at s count))
    (λ types items r. r ≡ Some (an_asked (stated statement types no_parts) ∷ items))) items r

abbrev pub Becomes : (Asked → Asked) → Next
Becomes change items r = On (asked_on items) (λ a below r. r ≡ Some (an_asked (change a) ∷ below)) r

abbrev pub Changes : (Statement → Statement) → Next
Changes change items r = Becomes (λ a. stated (change a.statement) a.types a.parts) items r

-- `storage` in `var<storage, read>`
abbrev pub InSpace : Source → ℕ → Next
InSpace s count items r = By (space_named (text_at s count)) (λ space. Changes (with_space space)) items r

-- `read` in `var<storage, read>`
abbrev pub WithAccess : Source → ℕ → Next
WithAccess s count items r = By (access_named (text_at s count)) (λ access. Changes (with_access access)) items r

abbrev pub OfType : WgslType → Next
OfType t items r = Becomes (with_type t) items r

-- `: f32`, `size f32`, noted from its name on
abbrev pub Annotated : Source → Scope → ℕ → Next
Annotated s scope index items r = On (place_on items) (λ from. By (type_noted s scope (noted s from index)) (λ t. OfType t.0)) r

-- `size struct S { a: f32 }`
abbrev pub WithStruct : Next
WithStruct items r = On (struct_on items) (λ t. OfType t.0) r

-- one more value: `= 1`, `case 1`
abbrev pub Value : Next
Value items r = On (operand_on items) (λ x. Becomes (with_value x)) r

abbrev pub Assigned : AssignmentOperator → Outcome → Outcome → Next
Assigned o x y items r = r ≡ Some (an_asked (stated (statements.Assignment o) [] (with_part (with_part no_parts x) y)) ∷ items)

-- `a = b`
abbrev pub Assigns : Next
Assigns items r = On (operand_on items) (λ y below. On (operand_on below) (λ x. Assigned Equal x y)) r

-- `a += b`
abbrev pub AssignsBy : Source → Next
AssignsBy s items r = On (operand_on items) (λ y below. On (place_on below) (λ count below. On (operand_on below) (λ x.
    By (assignment_of (text_at s count)) (λ o. Assigned o x y)))) r

-- `a++`, `a--`
abbrev pub Increments : Next
Increments items r = On (operand_on items) (λ x below r. r ≡ Some (an_asked (stated statements.Increment [] (with_part no_parts x)) ∷ below)) r

-- `resolve f(a)`, `why f(a)`, `f(a)`
abbrev pub Asks : Question → Next
Asks question items r = On (call_on items) (λ call below r. r ≡ Some (a_question question call ∷ below)) r

-- `overloads f`
abbrev pub Overloads : Source → ℕ → Next
Overloads s count items r = By (slice_get s.tokens (count - 1)) (λ t items r. r ≡ Some (an_overloads t ∷ items)) items r
