-- What is asked: forms of expressions and statements that have no overloads, and what these are; the requests; and calls that are
-- forms, as `&x`, `*x` and `array(x, y)`.
use Rattle.std.specs.Prelude.{◌≡◌, ℕ, List, Option, Result, Ok, Err, [], ◌∷◌, Some, None, codes, cond, option_map, bytes_eq}
use Rattle.std.specs.Option.{option_map_or}
use Rattle.wgsl_syntax.specs.declared.address.AccessMode.{AccessMode}
use Rattle.wgsl_syntax.specs.declared.address.AddressSpace.{AddressSpace}
use Rattle.wgsl_syntax.specs.declared.operator.AssignmentOperator.{AssignmentOperator}
use Rattle.wgsl_syntax.specs.declared.scalar.Scalar.{Scalar}
use Rattle.wgsl_requests.specs.Prelude.{WgslType, scalar, Operand, types_of, constructed, FormRefusal as Refusal, BinaryOperator, UnaryOperator, RuleSet}
use Rattle.wgsl_requests.specs.Prelude.{Members, Signature, Taker, Parameter, of_literal, of_type, WgslCallee, a_constructor, a_unary}
use Rattle.wgsl_standard.specs.forms.Address.{address_answer, indirection_answer}
use Rattle.wgsl_standard.specs.forms.Array.{IsInferredArray, typed_array}
use Rattle.wgsl_standard.specs.forms.Assign.{IsAssigned, incremented, operator_of}
use Rattle.wgsl_standard.specs.forms.Declare.{declared, overridden, taken}
use Rattle.wgsl_standard.specs.forms.Expressions.{Expression, shown_type}
use Rattle.wgsl_standard.specs.forms.Index.{index_answer}
use Rattle.wgsl_standard.specs.forms.Load.{loaded}
use Rattle.wgsl_standard.specs.forms.Member.{member_answer}
use Rattle.wgsl_standard.specs.forms.Switch.{switch_type}
use Rattle.wgsl_standard.specs.forms.Variable.{initialized_variable, variable}
use Rattle.wgsl_standard.specs.declared.forms.declare.Declaration.{Declaration}
use Rattle.wgsl_standard.specs.declared.forms.form.Referent.{Referent}
use Rattle.wgsl_requests.specs.Standard.{WgslCall}
use Rattle.wgsl_syntax.specs.declared.operator.UnaryOperator.TheVariants.{AddressOf, Indirection}
use Rattle.wgsl_rules.specs.templates.Templates.{count_of}
use Rattle.wgsl_standard.specs.declared.forms.form.Referent.TheVariants.{Whole}

-- a form with its operands, as they are written, before a reference is loaded
pub data WgslForm : Type 0 where
  -- `x.name`
  member_of : Operand → List ℕ → WgslForm
  -- `x[i]`
  index_of : Operand → Operand → WgslForm
  -- `x`, where a value is read
  load_of : Operand → WgslForm
  -- `let x = v;`, `const x: T = v;`, `override x = v;`
  declaration_of : Declaration → Operand → Option WgslType → WgslForm
  -- `override x: T;`
  override_of : WgslType → WgslForm
  -- `x = y;`, `x += y;`
  assignment_of : AssignmentOperator → Operand → Operand → WgslForm
  -- `x++;`, `x--;`
  increment_of : Operand → WgslForm
  -- `_ = x;`
  discard_of : Operand → WgslForm
  -- `S(x, y)`, where `S` is a struct
  construct_of : WgslType → List Operand → WgslForm
  -- `switch x { case y {} case z {} }`
  switch_of : Operand → List Operand → WgslForm
  -- `&x`, and what `x` is said to refer to
  address_of : Operand → Referent → WgslForm
  -- `*x`
  indirection_of : Operand → WgslForm
  -- `array(x, y)`
  array_of : List Operand → WgslForm
  -- `array<T, N>(x, y)`, `array<T>(x, y)`
  typed_array_of : WgslType → Option ℕ → List Operand → WgslForm
  -- `var<storage> x: T;`
  variable_of : AddressSpace → Option AccessMode → WgslType → WgslForm
  -- `var<private> x = v;`, `var x: T = v;`
  initialized_of : AddressSpace → Option AccessMode → Operand → Option WgslType → WgslForm

-- the type that is shown: `v.xy` : vec2<f32>, also where `v` is a variable
abbrev pub type_alone : Result Expression Refusal → Result WgslType Refusal
type_alone (Ok e) = Ok (shown_type e)
type_alone (Err e) = Err e

abbrev pub of_scalar : Result Scalar Refusal → Result WgslType Refusal
of_scalar (Ok s) = Ok (scalar s)
of_scalar (Err e) = Err e

-- the type of a form, or why it has none
abbrev pub IsFormType : WgslForm → Result WgslType Refusal → Type 0
IsFormType (member_of x name) r = r ≡ type_alone (member_answer x name)
IsFormType (index_of x i) r = r ≡ type_alone (index_answer x i)
IsFormType (load_of x) r = r ≡ loaded x.of_type
IsFormType (declaration_of d x t) r = r ≡ declared d x t
IsFormType (override_of t) r = r ≡ overridden t
IsFormType (assignment_of o x y) r = IsAssigned (operator_of o) x.of_type y r
IsFormType (increment_of x) r = r ≡ incremented x.of_type
IsFormType (discard_of x) r = r ≡ taken x.of_type
IsFormType (construct_of t xs) r = r ≡ constructed t (types_of xs)
IsFormType (switch_of x ys) r = r ≡ of_scalar (switch_type x ys)
IsFormType (address_of x referent) r = r ≡ type_alone (address_answer referent x.of_type)
IsFormType (indirection_of x) r = r ≡ type_alone (indirection_answer x.of_type)
IsFormType (array_of xs) r = IsInferredArray (types_of xs) r
IsFormType (typed_array_of t n xs) r = r ≡ typed_array t n (types_of xs)
IsFormType (variable_of s a t) r = r ≡ variable s a t
IsFormType (initialized_of s a x t) r = r ≡ initialized_variable s a x t

-- what is asked
pub data WgslRequest : Type 0 where
  -- the rank of a conversion
  rank : WgslType → WgslType → WgslRequest
  -- the common type of a list, if each of its types converts to it; the answer has the names of these rules
  common : RuleSet → List WgslType → WgslRequest
  -- the type of an expression with a unary or a binary operator
  unary : UnaryOperator → WgslType → WgslRequest
  binary : BinaryOperator → WgslType → WgslType → WgslRequest
  -- by these rules: the size and the alignment of a type, the offsets of a struct's members, and its layout
  size : RuleSet → WgslType → WgslRequest
  offsets : RuleSet → List ℕ → Members → WgslRequest
  layout : RuleSet → List ℕ → Members → WgslRequest
  -- the type that a constructor makes, and what a built-in function returns
  ctor : Signature → WgslRequest
  call : Signature → WgslRequest
  -- by WGSL's own overloads: the type of a call, what it resolves to, and why overloads don't take its operands
  type_of : WgslCall → WgslRequest
  resolution_of : WgslCall → WgslRequest
  explanation_of : WgslCall → WgslRequest
  -- WGSL's own overloads of a name
  overloads_of : List ℕ → WgslRequest
  -- by WGSL's own rules: the type of a form that has no overloads
  form_of : WgslForm → WgslRequest
  -- whether what takes these types takes the values
  fit_of : Taker → List Operand → List WgslType → WgslRequest

abbrev pub unary_form : List Operand → UnaryOperator → Option WgslForm
-- `&x`
unary_form (x ∷ []) AddressOf = Some (address_of x Whole)
-- `*x`
unary_form (x ∷ []) Indirection = Some (indirection_of x)
unary_form xs o = None

-- the element type and the number of elements in the template of an array
abbrev pub array_parameters : List Parameter → Option (WgslType × Option ℕ)
-- `array<f32>`
array_parameters (of_type t ∷ []) = Some (t, None)
-- `array<f32, 4>`; there is no `array<f32, 0>`
array_parameters (of_type t ∷ of_literal l ∷ []) = option_map (λ n. (t, Some n)) (count_of l)
array_parameters ps = None

abbrev pub array_form : Option (List Parameter) → List Operand → Option WgslForm
-- `array(x, y)`
array_form None xs = Some (array_of xs)
-- `array<f32, 2>(x, y)`
array_form (Some ps) xs = option_map (λ p. typed_array_of p.0 p.1 xs) (array_parameters ps)

abbrev pub constructor_form : List ℕ → Option (List Parameter) → List Operand → Option WgslForm
constructor_form name template xs = cond (bytes_eq name (codes "array")) (array_form template xs) None

abbrev pub called_form : WgslCallee → Option (List Parameter) → List Operand → Option WgslForm
called_form (a_unary o) template xs = unary_form xs o
called_form (a_constructor name) template xs = constructor_form name template xs
called_form callee template xs = None

-- The form that a call is. None if it has overloads, or if the template of an `array` names none.
abbrev pub form_of_call : WgslCall → Option WgslForm
form_of_call c = called_form c.callee c.template c.operands

-- what is asked for the type of a call
abbrev pub type_asked : WgslCall → WgslRequest
type_asked c = option_map_or form_of (form_of_call c) (type_of c)
