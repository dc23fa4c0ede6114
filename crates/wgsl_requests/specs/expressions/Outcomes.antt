-- What the parts of an expression are, by the requests about them, and how deep their types are nested.
use Rattle.std.specs.Prelude.{◌≡◌, ℕ, List, [], ◌∷◌, ◌++◌, Option, Some, None, Result, Ok, Err, Bool, false, true, codes, cond, ◌&&◌, map, zero, suc}
use Rattle.wgsl_requests.specs.expressions.Prelude.{list_all, Operand, Parameter, WgslType, WgslCallee, a_unary, can_be_const_expression, Expression}
use Rattle.wgsl_requests.specs.expressions.Prelude.{is_const_expression, shown_type, behind, formed_from, is_memory, Whole, Component, Swizzle, function, Answers}
use Rattle.wgsl_requests.specs.expressions.Prelude.{WgslAnswer, a_fit, a_type_of, a_form_type, type_asked, WgslRequest, fit_of, form_of, answer_text}
use Rattle.wgsl_syntax.specs.declared.operator.UnaryOperator.TheVariants.{AddressOf}
use Rattle.wgsl_standard.specs.forms.Index.{is_vector}
use Rattle.wgsl_standard.specs.forms.Member.{is_swizzle}
use Rattle.wgsl_standard.specs.declared.forms.form.Referent.{Referent}
use Rattle.wgsl_requests.specs.Requests.{address_of, construct_of, index_of, member_of, typed_array_of}
use Rattle.wgsl_rules.specs.types.Inner.{inner_of}
use Rattle.wgsl_rules.specs.types.Types.{within, atomic, pointer, reference, binding_array}

-- a part that has no type: the index of its first byte, and why
pub record Refused : Type 0 where
  pub at : ℕ
  pub message : List ℕ

-- an expression, or its first part that has no type
abbrev pub Outcome : Type 0
Outcome = Result Expression Refused

-- expressions, or the first part of them that has no type
abbrev pub Parts : Type 0
Parts = Result (List Expression) Refused

abbrev pub no_parts : Parts
no_parts = Ok []

-- one more part
abbrev pub with_part : Parts → Outcome → Parts
with_part (Ok xs) (Ok x) = Ok (xs ++ x ∷ [])
with_part (Ok xs) (Err e) = Err e
with_part (Err e) x = Err e

-- an operand of a request
abbrev pub operand : Expression → Operand
operand x = record { of_type = x.of_type; is_constant = x.is_constant }

abbrev pub is_constant : Expression → Bool
is_constant x = is_const_expression (operand x)

-- the type that an answer is; if a function takes the values, that of its result
abbrev pub type_of_answer : Option WgslType → WgslAnswer → Option WgslType
type_of_answer result (a_type_of c (Some (Some t))) = Some t
type_of_answer result (a_form_type (Ok t)) = Some t
type_of_answer result (a_fit (Ok fits)) = result
type_of_answer result a = None

-- why an answer is no type
abbrev pub message_of : WgslAnswer → List ℕ
message_of (a_fit (Ok fits)) = codes "no value"
message_of a = answer_text a

-- the expression of the type that an answer is, or why it is none
abbrev pub outcome_by : ℕ → (WgslType → Expression) → WgslAnswer → Option WgslType → Outcome
outcome_by at expression a (Some t) = Ok (expression t)
outcome_by at expression a None = Err (record { at = at; message = message_of a })

-- what the request about a part answers
abbrev pub IsOutcome : ℕ → (WgslType → Expression) → Option WgslType → WgslRequest → Outcome → Type 0
IsOutcome at expression result request r =
    (a : WgslAnswer) × Answers request a × (r ≡ outcome_by at expression a (type_of_answer result a))

-- a component of a vector in memory is marked, since there is no pointer to it
abbrev pub part_in : Expression → Bool → WgslType → Expression
part_in x is_constant t = record { of_type = t; is_constant = is_constant; referent = cond (is_memory t && is_vector (behind x.of_type)) Component Whole }

-- A swizzle of a reference is one again. What is answered is the type of its value.
abbrev pub swizzle_in : Expression → WgslType → Expression
swizzle_in x t = record { of_type = formed_from x.of_type t; is_constant = is_constant x; referent = Swizzle }

abbrev pub member_in : Expression → List ℕ → WgslType → Expression
member_in x name t = cond (is_swizzle (operand x) name) (swizzle_in x t) (part_in x (is_constant x) t)

-- `x.name`
abbrev pub IsMember : ℕ → List ℕ → Outcome → Outcome → Type 0
IsMember at name (Ok x) r = IsOutcome at (member_in x name) None (form_of (member_of (operand x) name)) r
IsMember at name (Err e) r = r ≡ Err e

-- `x[i]`
abbrev pub IsElement : ℕ → Outcome → Outcome → Outcome → Type 0
IsElement at (Ok x) (Ok i) r = IsOutcome at (part_in x (is_constant x && is_constant i)) None (form_of (index_of (operand x) (operand i))) r
IsElement at (Ok x) (Err e) r = r ≡ Err e
IsElement at (Err e) i r = r ≡ Err e

-- what stands in front of operands
pub data Head : Type 0 where
  overloaded : WgslCallee → Option (List Parameter) → Head
  -- `array<f32, 4>`
  typed_array : WgslType → Option ℕ → Head
  -- the constructor of a struct
  a_struct : WgslType → Head
  -- a function that the text declares: its name, the types of its parameters, and that of its result
  declared : List ℕ → List WgslType → Option WgslType → Head

-- what the only operand refers to
abbrev pub referent_of : List Expression → Referent
referent_of (x ∷ []) = x.referent
referent_of xs = Whole

-- the request, which says of the operand of `&` what it refers to
abbrev pub marked : Referent → WgslRequest → WgslRequest
marked referent (form_of (address_of x r)) = form_of (address_of x referent)
marked referent request = request

-- an operand of a head: a swizzle counts as its value, but `&` is asked of the reference
abbrev pub operand_by : Head → Expression → Operand
operand_by (overloaded (a_unary AddressOf) template) x = operand x
operand_by head x = record { of_type = shown_type x; is_constant = x.is_constant }

-- what is asked of a head with these operands, as the requests have them
abbrev pub asked_with : Head → Referent → List Operand → WgslRequest
asked_with (overloaded callee template) referent xs = marked referent (type_asked (record { callee = callee; template = template; operands = xs }))
asked_with (typed_array t n) referent xs = form_of (typed_array_of t n xs)
asked_with (a_struct t) referent xs = form_of (construct_of t xs)
asked_with (declared name ts result) referent xs = fit_of (function name) xs ts

abbrev pub asked : Head → List Expression → WgslRequest
asked head xs = asked_with head (referent_of xs) (map (operand_by head) xs)

-- the result of a function that the text declares
abbrev pub result_of_call : Head → Option WgslType
result_of_call (declared name ts result) = result
result_of_call head = None

-- whether it makes a const-expression of const-expressions
abbrev pub makes_constant : Head → Bool
makes_constant (overloaded callee template) = can_be_const_expression callee
makes_constant (typed_array t n) = true
makes_constant (a_struct t) = true
makes_constant (declared name ts result) = false

-- `max(1u, 2u)` is a const-expression, and `subgroupAdd(1u)` isn't
abbrev pub is_const_call : Head → List Expression → Bool
is_const_call head xs = list_all is_constant xs && makes_constant head

abbrev pub result_of : Head → List Expression → WgslType → Expression
result_of head xs t = record { of_type = t; is_constant = is_const_call head xs; referent = Whole }

-- `-x`, `x + y`, `f(x, y)`
abbrev pub IsCalled : ℕ → Head → Parts → Outcome → Type 0
IsCalled at head (Ok xs) r = IsOutcome at (result_of head xs) (result_of_call head) (asked head xs) r
IsCalled at head (Err e) r = r ≡ Err e

-- there is a type inside of the type
abbrev pub has_layer : WgslType → Bool
has_layer (within l t) = true
has_layer (atomic t) = true
has_layer (pointer s t m) = true
has_layer (reference s t m) = true
has_layer (binding_array n t) = true
has_layer t = false

-- the type has more than this many layers
abbrev pub is_deeper : ℕ → WgslType → Bool
is_deeper zero t = has_layer t
is_deeper (suc n) t = has_layer t && is_deeper n (inner_of t)

abbrev pub most_layers : ℕ
most_layers = 255

abbrev pub is_outcome_too_deep : Outcome → Bool
is_outcome_too_deep (Ok x) = is_deeper most_layers x.of_type
is_outcome_too_deep (Err e) = false
