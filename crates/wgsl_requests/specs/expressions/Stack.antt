-- What was read of a request and isn't yet part of anything else, and the structs and functions that are declared in front of it.
use Rattle.std.specs.Prelude.{◌≡◌, ℕ, List, ◌∷◌, Option, Some, None, cond, ◌+◌, ◌-◌, [], ◌++◌, codes, length, map, nat_lt, option_map, slice_range}
use Rattle.wgsl_requests.specs.expressions.Prelude.{Member, Token, WgslType, Question, members_of, Event, struct, named}
use Rattle.wgsl_requests.specs.expressions.Outcomes.{is_outcome_too_deep, Head, Outcome, Parts}
use Rattle.wgsl_requests.specs.expressions.Statements.{Asked}
use Rattle.wgsl_requests.specs.expressions.Source.{Declared, Scope, a_function, a_type, Source, first_count, noted, number_noted, text_at, type_noted}
use Rattle.wgsl_requests.specs.declared.expressions.heading.Attribute.{Attribute}
use Rattle.wgsl_requests.specs.declared.expressions.heading.Attribute.TheVariants.{Size, Align}

-- a call with its arguments so far, and the index of its first byte
pub record Call : Type 0 where
  pub at : ℕ
  pub head : Head
  pub parts : Parts

-- a struct with its members so far, or a function with its parameters so far
pub record Heading : Type 0 where
  pub name : List ℕ
  pub members : List Member
  -- how many types are inside: one per member, and those inside the members' types
  pub inside : ℕ
  -- the attributes of the next member
  pub size : Option ℕ
  pub align : Option ℕ
  pub result : Option WgslType

-- What was read and isn't yet part of anything else. What has a place in the text is there by a number: a name by the index at which
-- it is noted, an operator by the number of tokens up to it, a bracket by the index of its byte.
pub data Item : Type 0 where
  an_operand : Outcome → Item
  a_place : ℕ → Item
  a_call : Call → Item
  a_heading : Heading → Item
  an_asked : Asked → Item
  -- what is asked about a call
  a_question : Question → Call → Item
  -- `overloads f`, by the token of the name
  an_overloads : Token → Item

-- what stands on top, and the items below, the last first
abbrev pub Top : Type 0 → Type 0
Top A = Option (A × List Item)

abbrev pub operand_on : List Item → Top Outcome
operand_on (an_operand x ∷ items) = Some (x, items)
operand_on items = None

abbrev pub place_on : List Item → Top ℕ
place_on (a_place place ∷ items) = Some (place, items)
place_on items = None

abbrev pub call_on : List Item → Top Call
call_on (a_call call ∷ items) = Some (call, items)
call_on items = None

abbrev pub heading_on : List Item → Top Heading
heading_on (a_heading h ∷ items) = Some (h, items)
heading_on items = None

abbrev pub asked_on : List Item → Top Asked
asked_on (an_asked a ∷ items) = Some (a, items)
asked_on items = None

-- the items that come of others, or None where there is no expression
abbrev pub Next : Type 1
Next = List Item → Option (List Item) → Type 0

-- what is done with what stands on top
abbrev pub On : {A : Type 0} → Top A → (A → Next) → Option (List Item) → Type 0
On None Then r = r ≡ None
On (Some found) Then r = Then found.0 found.1 r

-- what is done with what is there
abbrev pub By : {A : Type 0} → Option A → (A → Next) → Next
By None Then items r = r ≡ None
By (Some x) Then items r = Then x items r

-- no expression has a type of more than 255 layers
abbrev pub with_operand : Outcome → List Item → Option (List Item)
with_operand x items = cond (is_outcome_too_deep x) None (Some (an_operand x ∷ items))

abbrev pub Puts : (Outcome → Type 0) → Next
Puts Is items r = (x : Outcome) × Is x × (r ≡ with_operand x items)

-- `struct S`, `fn f`
abbrev pub begun_heading : List ℕ → Heading
begun_heading name = record { name = name; members = []; inside = 0; size = None; align = None; result = None }

abbrev pub Headed : Source → ℕ → Next
Headed s count items r = r ≡ Some (a_heading (begun_heading (text_at s count)) ∷ items)

abbrev pub Changed : (Heading → Heading) → Next
Changed change items r = On (heading_on items) (λ h below r. r ≡ Some (a_heading (change h) ∷ below)) r

-- the attributes that count in layouts
abbrev pub attributes : List (Attribute × List ℕ)
attributes = (Size, codes "size") ∷ (Align, codes "align") ∷ []

abbrev pub with_attribute : Attribute → ℕ → Heading → Heading
with_attribute Size n h = record h { size = Some n }
with_attribute Align n h = record h { align = Some n }

-- the number of an attribute is noted between its name and the end of its only argument
abbrev pub Numbered : Source → List Event → Attribute → Next
Numbered s events attribute items r =
    By (number_noted s (slice_range events 1 (length events - 1))) (λ n. Changed (with_attribute attribute n)) items r

-- other attributes say nothing of a type
abbrev pub NumberedIfAny : Source → List Event → Option Attribute → Next
NumberedIfAny s events None items r = r ≡ Some items
NumberedIfAny s events (Some attribute) items r = Numbered s events attribute items r

-- `@size(16)`, noted from its name on
abbrev pub Attributed : Source → ℕ → Next
Attributed s index items r = On (place_on items) (λ from. let events = noted s from index in
    NumberedIfAny s events (named attributes (text_at s (first_count events)))) r

-- one more member, with the attributes in front of it
abbrev pub with_member : List ℕ → WgslType → ℕ → Heading → Heading
with_member name t inside h = record h {
  members = h.members ++ record { name = name; ty = t; size = h.size; align = h.align } ∷ [];
  inside = h.inside + (1 + inside);
  size = None;
  align = None;
}

-- at most 255 types are inside
abbrev pub member_in : List ℕ → WgslType → ℕ → Heading → Option Heading
member_in name t inside h = cond (nat_lt inside (255 - h.inside)) (Some (with_member name t inside h)) None

abbrev pub MemberIn : List ℕ → WgslType × ℕ → Next
MemberIn name t items r = On (heading_on items) (λ h. By (member_in name t.0 t.1 h) (λ h items r. r ≡ Some (a_heading h ∷ items))) r

-- `a: T` of a struct or a function: its name is noted, then its type
abbrev pub Membered : Source → Scope → ℕ → Next
Membered s scope index items r = On (place_on items) (λ from below. On (place_on below) (λ named.
    By (type_noted s scope (noted s from index)) (MemberIn (text_at s (first_count (noted s named from)))))) r

abbrev pub with_result : WgslType → Heading → Heading
with_result t h = record h { result = Some t }

-- `-> T`
abbrev pub Resulted : Source → Scope → ℕ → Next
Resulted s scope index items r = On (place_on items) (λ from. By (type_noted s scope (noted s from index)) (λ t. Changed (with_result t.0))) r

abbrev pub struct_of : Heading → WgslType
struct_of h = struct h.name (members_of h.members)

-- the struct on top, and how many types are inside it
abbrev pub struct_on : List Item → Top (WgslType × ℕ)
struct_on items = option_map (λ found. ((struct_of found.0, (found.0).inside), found.1)) (heading_on items)

abbrev pub struct_declared : Heading → Declared
struct_declared h = record { name = h.name; meaning = a_type (struct_of h) h.inside }

abbrev pub function_declared : Heading → Declared
function_declared h = record { name = h.name; meaning = a_function (map (λ m. m.ty) h.members) h.result }

-- what is on top is declared
abbrev pub declared_by : (Heading → Declared) → Scope → List Item → Option (Scope × List Item)
declared_by declare scope items = option_map (λ found. (declare found.0 ∷ scope, found.1)) (heading_on items)
