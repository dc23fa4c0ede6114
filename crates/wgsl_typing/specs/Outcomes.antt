-- What an expression is by what its parts are: what the overloads and the forms answer (WGSL, "Expressions").
use Rattle.std.specs.Prelude.{◌≡◌, ℕ, List, [], ◌∷◌, ◌++◌, Bool, true, false, Option, Some, None, Result, Ok, Err, IsSome, codes, cond, decimal, nat_eq, map, option_map}
use Rattle.wgsl_core.specs.View.{view}
use Rattle.wgsl_core.specs.declared.ty.Type.{«Type»}
use Rattle.wgsl_syntax.specs.declared.operator.UnaryOperator.{UnaryOperator}
use Rattle.wgsl_syntax.specs.declared.operator.UnaryOperator.TheVariants as operators
use Rattle.wgsl_rules.specs.standard.Choice.{Operand, value_of}
use Rattle.wgsl_rules.specs.types.Spelling.{wgsl_spelling}
use Rattle.wgsl_rules.specs.types.Types.{WgslType, array, mat, scalar, struct, vec}
use Rattle.wgsl_standard.specs.Callees.{WgslCallee, a_constructor, a_unary, can_be_const_expression}
use Rattle.wgsl_standard.specs.Resolved.{IsCallResolution, resolved_view}
use Rattle.wgsl_standard.specs.declared.resolved.ResolvedCall.{ResolvedCall}
use Rattle.wgsl_standard.specs.forms.Address.{address_answer, indirection_answer}
use Rattle.wgsl_standard.specs.forms.Array.{IsInferredArray, typed_array}
use Rattle.wgsl_standard.specs.forms.Expressions.{Expression}
use Rattle.wgsl_standard.specs.forms.Lists.{function, list_fits}
use Rattle.wgsl_standard.specs.forms.Memory.{behind}
use Rattle.wgsl_standard.specs.forms.Refusals.{Refusal}
use Rattle.wgsl_standard.specs.declared.forms.form.Referent.{Referent}
use Rattle.wgsl_standard.specs.declared.forms.form.Referent.TheVariants.{Whole, Swizzle}
use Rattle.wgsl_typing.specs.Known.{typed_in}
use Rattle.wgsl_typing.specs.Stages.{is_const, latest}
use Rattle.wgsl_typing.specs.declared.known.Outcome.{Outcome}
use Rattle.wgsl_typing.specs.declared.known.Outcome.TheVariants as outcomes
use Rattle.wgsl_typing.specs.declared.known.Part.{Part}
use Rattle.wgsl_typing.specs.declared.known.Signature.{Signature}
use Rattle.wgsl_typing.specs.declared.known.Typed.{Typed}
use Rattle.wgsl_typing.specs.declared.stage.Stage.{Stage}
use Rattle.wgsl_typing.specs.declared.stage.Stage.TheVariants.{Runtime}
use Rattle.wgsl_typing.specs.Counts.{is_counted_by_override, unless_counted}
use Rattle.wgsl_typing.specs.declared.ask.Unresolved.{Unresolved}

-- Operands

-- A reference to several components of a vector is its value.
abbrev pub shown_type : Referent → WgslType → WgslType
shown_type Swizzle t = behind t
shown_type referent t = t

-- as the forms see it
abbrev pub shown : Typed → Operand
shown x = record { of_type = shown_type x.referent (view x.ty); is_constant = is_const x.stage }

-- as the overloads see it: loaded
abbrev pub loaded : Typed → Operand
loaded x = record { of_type = value_of (shown x).of_type; is_constant = is_const x.stage }

abbrev pub with_typed : Option Typed → List Typed → List Typed
with_typed None xs = xs
with_typed (Some x) xs = x ∷ xs

-- the parts that have a type
abbrev pub typed_parts : List Part → List Typed
typed_parts [] = []
typed_parts (part ∷ parts) = with_typed (typed_in part.outcome) (typed_parts parts)

abbrev pub types_of : List Part → List WgslType
types_of parts = map (λ x. (shown x).of_type) (typed_parts parts)

abbrev pub operands_of : List Part → List Operand
operands_of parts = map loaded (typed_parts parts)

-- an expression of these parts is known when the last of them is
abbrev pub stage_of : List Part → Stage
stage_of parts = latest (map (λ x. x.stage) (typed_parts parts))

-- Outcomes

-- it has this type, is known at this stage, and refers to this
abbrev pub HasType : WgslType → Stage → Referent → Outcome → Type 0
HasType t stage referent (outcomes.Typed x) = (view x.ty ≡ t) × (x.stage ≡ stage) × (x.referent ≡ referent)
HasType t stage referent other = ⊥

-- of what has a fault beside its type nothing more is said, as of a value out of range
abbrev pub OrFaulty : (Outcome → Type 0) → Outcome → Type 0
OrFaulty P outcomes.Faulty = Unit {0}
OrFaulty P o = P o

-- what overloads give: a type, or no value
abbrev pub HasResult : Stage → Option WgslType → Outcome → Type 0
HasResult stage (Some t) o = HasType t stage Whole o
HasResult stage None o = o ≡ outcomes.NoValue

-- without an overload it is faulty
abbrev pub IsResult : Stage → Option (ℕ × List WgslType × Option WgslType) → Outcome → Type 0
IsResult stage None o = o ≡ outcomes.Faulty
IsResult stage (Some c) o = OrFaulty (HasResult stage c.2) o

-- A call of overloads: `x + y`, `max(x, y)`, `vec3<f32>(x)`. Its template and its operands decide.
abbrev pub IsOverloaded : WgslCallee → Option WgslType → List Operand → Stage → Outcome → Type 0
IsOverloaded callee template xs stage o = (c : Option (ℕ × List WgslType × Option WgslType))
    × IsCallResolution callee template xs c × IsResult stage c o

-- A form: `x.y`, `x[i]`, `&x`, `*x`
abbrev pub IsFormed : Stage → Result Expression Refusal → Outcome → Type 0
IsFormed stage (Ok x) o = HasType x.of_type stage x.referent o
IsFormed stage (Err e) o = o ≡ outcomes.Faulty

-- the same, where what has a type may have another fault
abbrev pub IsFormedOrFaulty : Stage → Result Expression Refusal → Outcome → Type 0
IsFormedOrFaulty stage (Ok x) o = OrFaulty (HasType x.of_type stage x.referent) o
IsFormedOrFaulty stage (Err e) o = o ≡ outcomes.Faulty

-- what is made as this type: `array(1, 2)`, `S(1)`
abbrev pub IsMade : Stage → Result WgslType Refusal → Outcome → Type 0
IsMade stage (Ok t) o = HasType t stage Whole o
IsMade stage (Err e) o = o ≡ outcomes.Faulty

-- `&x`, `*x`, and what overloads take: `-x`
abbrev pub IsUnary : UnaryOperator → Typed → Outcome → Type 0
IsUnary operators.AddressOf x o = IsFormed Runtime (address_answer x.referent (view x.ty)) o
IsUnary operators.Indirection x o = IsFormed Runtime (indirection_answer (view x.ty)) o
IsUnary operator x o = IsOverloaded (a_unary operator) None (loaded x ∷ []) x.stage o

-- Calls

-- `max(1, 2)` is known when the module is made, and `subgroupAdd(1)` never before the shader runs.
abbrev pub stage_of_call : WgslCallee → List Part → Stage
stage_of_call callee xs = cond (can_be_const_expression callee) (stage_of xs) Runtime

-- a call of what has overloads: `max(x, y)`, `bitcast<f32>(x)`
abbrev pub IsCall : WgslCallee → Option WgslType → List Part → Outcome → Type 0
IsCall callee template xs o = IsOverloaded callee template (operands_of xs) (stage_of_call callee xs) o

abbrev pub returns_if_fitting : Bool → Option WgslType → Result (Unit {0}) Refusal → Outcome → Type 0
returns_if_fitting true result fits o = o ≡ outcomes.Faulty
returns_if_fitting false result (Err e) o = o ≡ outcomes.Faulty
returns_if_fitting false result (Ok u) o = OrFaulty (HasResult Runtime result) o

-- a call of a function of the module by its name, of which no entry point is called
abbrev pub IsOfFunction : List ℕ → Signature → List Part → Outcome → Type 0
IsOfFunction name f xs o = returns_if_fitting f.is_entry_point (option_map view f.result) (list_fits (function name) (map view f.parameters.items) (types_of xs)) o

-- Constructors

abbrev pub vector_name : ℕ → List ℕ
vector_name n = cond (nat_eq n 2) (codes "vec2") (cond (nat_eq n 3) (codes "vec3") (codes "vec4"))

abbrev pub matrix_name : ℕ → ℕ → List ℕ
matrix_name c r = codes "mat" ++ (decimal c ++ (codes "x" ++ decimal r))

-- `array<f32, 2>(x, y)`; what an override counts can't be constructed
abbrev pub IsArray : Bool → Option ℕ → WgslType → List Part → Outcome → Type 0
IsArray true n t xs o = o ≡ outcomes.Faulty
IsArray false n t xs o = IsMade (stage_of xs) (typed_array t n (types_of xs)) o

-- A constructor of a type: `i32(x)`, `vec3<f32>(x)`, `array<f32, 2>(x, y)`, `S(x)`. In types a declared struct stands by its name
-- and a summary; which values its constructor takes is that of `constructed` by the members of its declaration.
abbrev pub IsConstructed : WgslType → List Part → Outcome → Type 0
IsConstructed (scalar s) xs o = IsCall (a_constructor (wgsl_spelling (scalar s))) None xs o
IsConstructed (vec n t) xs o = IsCall (a_constructor (vector_name n)) (Some t) xs o
IsConstructed (mat c r t) xs o = IsCall (a_constructor (matrix_name c r)) (Some t) xs o
IsConstructed (array n t) xs o = IsArray (is_counted_by_override (array n t)) n t xs o
IsConstructed (struct name ms) xs o = OrFaulty (HasType (struct name ms) (stage_of xs) Whole) o
IsConstructed t xs o = o ≡ outcomes.Faulty

-- `array(x, y)`, whose elements have the common type of the values
abbrev pub IsInferred : List Part → Outcome → Type 0
IsInferred xs o = (answer : Result WgslType Refusal) × IsInferredArray (types_of xs) answer × IsMade (stage_of xs) (unless_counted answer) o

-- Answers of questions to the overloads and the forms

-- what was made, or that nothing was
abbrev pub IsFound : {E : Type 0} → Stage → Result «Type» E → Outcome → Type 0
IsFound stage (Ok ty) o = HasType (view ty) stage Whole o
IsFound stage (Err message) o = o ≡ outcomes.Faulty

-- what a call resolves to, or that it resolves to nothing
abbrev pub resolved : Result ResolvedCall Unresolved → Option (ℕ × List WgslType × Option WgslType)
resolved (Ok call) = Some (resolved_view call)
resolved (Err reason) = None

-- what a form answers; of a refusal its message
abbrev pub IsAnswer : {A B E : Type 0} → (A → B → Type 0) → Result B Refusal → Result A E → Type 0
IsAnswer Is (Ok b) (Ok a) = Is a b
IsAnswer Is (Err e) (Err message) = Unit {0}
IsAnswer Is answer found = ⊥

abbrev pub IsMember : Stage → Typed → Expression → Type 0
IsMember stage x e = (view x.ty ≡ e.of_type) × (x.stage ≡ stage) × (x.referent ≡ e.referent)

abbrev pub IsType : «Type» → WgslType → Type 0
IsType ty t = view ty ≡ t

-- the array that is inferred, or why there is none
abbrev pub IsInferredAs : {E : Type 0} → List Part → Result «Type» E → Type 0
IsInferredAs xs found = (answer : Result WgslType Refusal) × IsInferredArray (types_of xs) answer × IsAnswer IsType (unless_counted answer) found

-- a message, exactly if there is a refusal
abbrev pub IsMessage : {A E : Type 0} → Result A Refusal → Option E → Type 0
IsMessage (Ok a) message = message ≡ None
IsMessage (Err e) message = IsSome message

-- the outcome, or that it is faulty
abbrev pub or_faulty : {E : Type 0} → Result Outcome E → Outcome
or_faulty (Ok o) = o
or_faulty (Err message) = outcomes.Faulty
