-- Declarations, statements and questions over types, and what they ask.
use Rattle.std.specs.Prelude.{ℕ, List, [], ◌∷◌, ◌++◌, Option, Some, None, Ok, codes, option_map, option_to_list}
use Rattle.wgsl_requests.specs.expressions.Prelude.{named, table, AssignmentOperator, Bool as TheBool, Operand, Members, WgslType, scalar, struct, condition, returned}
use Rattle.wgsl_requests.specs.expressions.Prelude.{Kind, WgslAnswer, a_fit, a_form_type, WgslRequest, common, explanation_of, fit_of, form_of, layout, offsets, rank}
use Rattle.wgsl_requests.specs.expressions.Prelude.{resolution_of, size, type_of, answer_text, resolution_text, Question}
use Rattle.wgsl_syntax.specs.Operator.{assignment_operators, assignment_text}
use Rattle.wgsl_syntax.specs.declared.address.AccessMode.{AccessMode}
use Rattle.wgsl_syntax.specs.declared.address.AddressSpace.{AddressSpace}
use Rattle.wgsl_syntax.specs.declared.address.AddressSpace.TheVariants.{Function}
use Rattle.wgsl_syntax.specs.declared.rules.RuleSet.TheVariants.{Standard}
use Rattle.wgsl_standard.specs.declared.forms.declare.Declaration.{Declaration}
use Rattle.wgsl_standard.specs.declared.forms.declare.Declaration.TheVariants.{Let, Const, Override}
use Rattle.wgsl_reader.specs.declared.kind.Kind.TheVariants as k
use Rattle.wgsl_requests.specs.Requests.{WgslForm, assignment_of as an_assignment, declaration_of, discard_of, increment_of, initialized_of, load_of, override_of, switch_of, variable_of}
use Rattle.wgsl_requests.specs.expressions.Outcomes.{Head, Outcome, Parts, declared, with_part}
use Rattle.wgsl_requests.specs.expressions.Source.{Scope, last_result}
use Rattle.wgsl_requests.specs.declared.expressions.statement.Question.TheVariants as q
use Rattle.wgsl_requests.specs.declared.expressions.statement.Statement.{Statement}
use Rattle.wgsl_requests.specs.declared.expressions.statement.Statement.TheVariants as s

-- a request with its types and its values
pub record Asked : Type 0 where
  pub statement : Statement
  pub types : List WgslType
  pub parts : Parts

abbrev pub stated : Statement → List WgslType → Parts → Asked
stated statement types parts = record { statement = statement; types = types; parts = parts }

-- what begins with a token: `let`, `if`, `size`; the `const` of a request is a kind of its own
abbrev pub statement_of : Kind → Option Statement
statement_of k.Let = Some (s.Declaration Let)
statement_of k.ConstOperand = Some (s.Declaration Const)
statement_of k.Override = Some (s.Declaration Override)
statement_of k.Var = Some (s.Variable Function None)
statement_of k.Underscore = Some s.Phony
statement_of k.Load = Some s.Load
statement_of k.ConstAssert = Some s.Condition
statement_of k.If = Some s.Condition
statement_of k.While = Some s.Condition
statement_of k.Return = Some s.Return
statement_of k.Switch = Some s.Switch
statement_of k.Rank = Some s.Rank
statement_of k.Common = Some s.Common
statement_of k.Size = Some s.Size
statement_of k.Offsets = Some s.Offsets
statement_of k.Layout = Some s.Layout
statement_of other = None

-- the types that the values have to fit: that of a condition, and behind `return` the result of the function
abbrev pub types_of : Scope → Kind → Option (List WgslType)
types_of scope k.ConstAssert = Some (scalar TheBool ∷ [])
types_of scope k.If = Some (scalar TheBool ∷ [])
types_of scope k.While = Some (scalar TheBool ∷ [])
types_of scope k.Return = option_map option_to_list (last_result scope)
types_of scope other = Some []

-- `+=`
abbrev pub assignment_of : List ℕ → Option AssignmentOperator
assignment_of word = named (table assignment_text assignment_operators) word

-- `var<storage>`
abbrev pub with_space : AddressSpace → Statement → Statement
with_space space (s.Variable other access) = s.Variable space access
with_space space statement = statement

-- `var<storage, read>`
abbrev pub with_access : AccessMode → Statement → Statement
with_access access (s.Variable space other) = s.Variable space (Some access)
with_access access statement = statement

-- `: f32`, `size f32`
abbrev pub with_type : WgslType → Asked → Asked
with_type t a = stated a.statement (a.types ++ t ∷ []) a.parts

-- one more value: `= 1`, `case 1`
abbrev pub with_value : Outcome → Asked → Asked
with_value x a = stated a.statement a.types (with_part a.parts x)

-- `override x: f32`
abbrev pub undefined_form : Declaration → Option WgslType → Option WgslForm
undefined_form Override t = option_map override_of t
undefined_form Let t = None
undefined_form Const t = None

-- `let x = a`, `const x: f32 = a`
abbrev pub declaration_form : Declaration → Option WgslType → List Operand → Option WgslForm
declaration_form d t [] = undefined_form d t
declaration_form d t (x ∷ []) = Some (declaration_of d x t)
declaration_form d t more = None

-- `var<storage> x: f32`, `var x = a`
abbrev pub variable_form : AddressSpace → Option AccessMode → Option WgslType → List Operand → Option WgslForm
variable_form space access t [] = option_map (variable_of space access) t
variable_form space access t (x ∷ []) = Some (initialized_of space access x t)
variable_form space access t more = None

-- `a = b`, `a += b`
abbrev pub assignment_form : AssignmentOperator → List Operand → Option WgslForm
assignment_form o (x ∷ y ∷ []) = Some (an_assignment o x y)
assignment_form o xs = None

-- `a++`, `_ = a`
abbrev pub only : List Operand → Option Operand
only (x ∷ []) = Some x
only xs = None

-- `switch a { case b, c { } }`
abbrev pub switch_form : List Operand → Option WgslForm
switch_form (x ∷ ys) = Some (switch_of x ys)
switch_form [] = None

abbrev pub form_stated : Statement → Option WgslType → List Operand → Option WgslForm
form_stated (s.Declaration d) t xs = declaration_form d t xs
form_stated (s.Variable space access) t xs = variable_form space access t xs
form_stated (s.Assignment o) t xs = assignment_form o xs
form_stated s.Increment t xs = option_map increment_of (only xs)
form_stated s.Phony t xs = option_map discard_of (only xs)
form_stated s.Load t xs = option_map load_of (only xs)
form_stated s.Switch t xs = switch_form xs
form_stated other t xs = None

abbrev pub rank_of : List WgslType → Option WgslRequest
rank_of (t ∷ u ∷ []) = Some (rank t u)
rank_of ts = None

abbrev pub size_of : List WgslType → Option WgslRequest
size_of (t ∷ []) = Some (size Standard t)
size_of ts = None

-- the name and the members of a struct
abbrev pub struct_of : WgslType → Option (List ℕ × Members)
struct_of (struct name ms) = Some (name, ms)
struct_of t = None

abbrev pub only_struct : List WgslType → Option (List ℕ × Members)
only_struct (t ∷ []) = struct_of t
only_struct ts = None

-- what is asked about types: `rank T, U`, `size T`, and of structs `offsets S`, `layout S`
abbrev pub request_on : Statement → List WgslType → Option WgslRequest
request_on s.Rank ts = rank_of ts
request_on s.Size ts = size_of ts
request_on s.Offsets ts = option_map (λ found. offsets Standard found.0 found.1) (only_struct ts)
request_on s.Layout ts = option_map (λ found. layout Standard found.0 found.1) (only_struct ts)
request_on other ts = None

abbrev pub first : List WgslType → Option WgslType
first [] = None
first (t ∷ ts) = Some t

-- what another request than `common` asks
abbrev pub other_request : Statement → List WgslType → List Operand → Option WgslRequest
other_request s.Condition ts xs = Some (fit_of condition xs ts)
other_request s.Return ts xs = Some (fit_of returned xs ts)
other_request s.Rank ts xs = request_on s.Rank ts
other_request s.Size ts xs = request_on s.Size ts
other_request s.Offsets ts xs = request_on s.Offsets ts
other_request s.Layout ts xs = request_on s.Layout ts
other_request statement ts xs = option_map form_of (form_stated statement (first ts) xs)

-- what is asked
abbrev pub request_of : Statement → List WgslType → List Operand → Option WgslRequest
request_of s.Common ts xs = Some (common Standard ts)
request_of statement ts xs = other_request statement ts xs

-- what is asked about a call of which this asks the type; only overloads are resolved and explained
abbrev pub question_on : WgslRequest → Question → WgslRequest
question_on (type_of c) q.Type = type_of c
question_on (type_of c) q.Resolution = resolution_of c
question_on (type_of c) q.Explanation = explanation_of c
question_on request question = request

-- what is told of a call of a function that the line declares, if the answer is about such a call: `0 (f32) -> u32`
abbrev pub signature_or_text : Head → WgslAnswer → List ℕ
signature_or_text (declared name ts result) (a_fit (Ok fits)) = resolution_text (0, ts, result)
signature_or_text head a = answer_text a

-- what has no overloads refuses nothing if it has a type or takes the values
abbrev pub reason_or_none : WgslAnswer → List ℕ
reason_or_none (a_fit (Ok fits)) = codes "none"
reason_or_none (a_form_type (Ok t)) = codes "none"
reason_or_none a = answer_text a

-- what is told of the answer to a question about a call
abbrev pub told : Question → Head → WgslAnswer → List ℕ
told q.Type head a = answer_text a
told q.Resolution head a = signature_or_text head a
told q.Explanation head a = reason_or_none a
