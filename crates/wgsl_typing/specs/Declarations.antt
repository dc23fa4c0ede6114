-- What a name is declared as, by its value and the type behind the colon (WGSL, "Variable and Value Declarations").
use Rattle.std.specs.Prelude.{◌≡◌, List, ◌∷◌, Bool, true, false, Option, Some, None, Result, Ok, Err, not}
use Rattle.wgsl_core.specs.View.{view}
use Rattle.wgsl_rules.specs.standard.Choice.{Operand}
use Rattle.wgsl_rules.specs.types.Types.{WgslType}
use Rattle.wgsl_syntax.specs.declared.address.AccessMode.{AccessMode}
use Rattle.wgsl_syntax.specs.declared.address.AddressSpace.{AddressSpace}
use Rattle.wgsl_syntax.specs.declared.address.AddressSpace.TheVariants.{Private}
use Rattle.wgsl_standard.specs.forms.Declare.{declared}
use Rattle.wgsl_standard.specs.forms.Flow.{condition}
use Rattle.wgsl_standard.specs.forms.Refusals.{Refusal}
use Rattle.wgsl_standard.specs.forms.Variable.{initialized_variable, variable}
use Rattle.wgsl_standard.specs.declared.forms.declare.Declaration.{Declaration}
use Rattle.wgsl_standard.specs.declared.forms.declare.Declaration.TheVariants as declarations
use Rattle.wgsl_standard.specs.declared.forms.form.Referent.TheVariants.{Whole}
use Rattle.wgsl_typing.specs.Known.{operand_where, typed_in}
use Rattle.wgsl_typing.specs.Stages.{is_early}
use Rattle.wgsl_typing.specs.declared.known.Outcome.{Outcome}
use Rattle.wgsl_typing.specs.declared.known.Typed.{Typed}
use Rattle.wgsl_typing.specs.declared.stage.Stage.{Stage}
use Rattle.wgsl_typing.specs.declared.stage.Stage.TheVariants as stages
use Rattle.wgsl_typing.specs.Outcomes.{shown}
use Rattle.wgsl_typing.specs.declared.declared.Declared.{Declared}
use Rattle.wgsl_typing.specs.declared.declared.Declared.TheVariants as types
use Rattle.wgsl_typing.specs.declared.item.Item.{Item}
use Rattle.wgsl_typing.specs.declared.item.Item.TheVariants as items

abbrev pub is_refused : {A E : Type 0} → Result A E → Bool
is_refused (Ok a) = false
is_refused (Err e) = true

abbrev pub answer_of : {A E : Type 0} → Result A E → Option A
answer_of (Ok a) = Some a
answer_of (Err e) = None

-- when the value of what is declared is known
abbrev pub stage_of_declaration : Declaration → Stage
stage_of_declaration declarations.Let = stages.Runtime
stage_of_declaration declarations.Const = stages.Const
stage_of_declaration declarations.Override = stages.Override

-- An `override` and a `private` variable take what is known before the shader runs.
abbrev pub early : Typed → Operand
early x = operand_where (λ x. is_early x.stage) x

abbrev pub value_of_declaration : Declaration → Typed → Operand
value_of_declaration declarations.Override x = early x
value_of_declaration d x = shown x

abbrev pub value_of_variable : AddressSpace → Typed → Operand
value_of_variable Private x = early x
value_of_variable space x = shown x

-- the type behind the colon
abbrev pub type_behind : Declared → Option WgslType
type_behind (types.Type ty) = Some (view ty)
type_behind other = None

-- the one on top, if there is one
abbrev pub declared_on : List Item → Declared
declared_on (items.DeclaredType (Some ty) ∷ rest) = types.Type ty
declared_on (items.DeclaredType None ∷ rest) = types.Faulty
declared_on is = types.No

-- It is declared with the type that the rules give, or, where they refuse it or its value is out of range, faulty.
abbrev pub IsHeld : Stage → Result WgslType Refusal → Option Typed → Type 0
IsHeld stage answer None = Unit {0}
IsHeld stage (Ok t) (Some x) = (view x.ty ≡ t) × (x.stage ≡ stage) × (x.referent ≡ Whole)
IsHeld stage (Err e) (Some x) = ⊥

-- of a value without a type nothing more is said
abbrev pub IsHeldFor : (Typed → Result WgslType Refusal) → Stage → Option Typed → Option Typed → Type 0
IsHeldFor Answer stage None r = r ≡ None
IsHeldFor Answer stage (Some v) r = IsHeld stage (Answer v) r

-- the value of a declaration whose type behind the colon has no fault
abbrev pub initializing : Declared → Outcome → Option Typed
initializing types.Faulty o = None
initializing ty o = typed_in o

-- `let x = y`, `const x: T = y`, `override x = y`
abbrev pub IsDeclared : Declaration → Declared → Outcome → Option Typed → Type 0
IsDeclared d ty o r = IsHeldFor (λ v. declared d (value_of_declaration d v) (type_behind ty)) (stage_of_declaration d) (initializing ty o) r

-- `var x = y`, `var<private> x: T = y`
abbrev pub IsInitialized : AddressSpace → Option AccessMode → Declared → Outcome → Option Typed → Type 0
IsInitialized space access ty o r = IsHeldFor (λ v. initialized_variable space access (value_of_variable space v) (type_behind ty)) stages.Runtime (initializing ty o) r

-- `var x: T`
abbrev pub IsUninitialized : AddressSpace → Option AccessMode → Declared → Option Typed → Type 0
IsUninitialized space access (types.Type ty) r = IsHeld stages.Runtime (variable space access (view ty)) r
IsUninitialized space access other r = r ≡ None

-- `var x = y`, `var x: T`
abbrev pub IsVariable : AddressSpace → Option AccessMode → Option Outcome → Declared → Option Typed → Type 0
IsVariable space access (Some o) ty r = IsInitialized space access ty o r
IsVariable space access None ty r = IsUninitialized space access ty r

-- `if x`
abbrev pub is_condition_of : Option Typed → Bool
is_condition_of None = false
is_condition_of (Some x) = not (is_refused (condition (shown x).of_type))

abbrev pub is_condition : Outcome → Bool
is_condition o = is_condition_of (typed_in o)
