-- The answers of calls that can find no overload or be out of memory.
use Rattle.std.specs.Prelude.{◌≡◌, ℕ, List, Option, Some, None, Result, Ok, Err, option_map}
use Rattle.wgsl_rules.specs.types.Types.{WgslType}
use Rattle.wgsl_core.specs.declared.ty.Type.{«Type»}
use Rattle.wgsl_core.specs.View.{view}
use Rattle.wgsl_core.specs.declared.error.Fail.{Fail}
use Rattle.wgsl_core.specs.declared.error.Fail.TheVariants.{Error, Memory}
use Rattle.wgsl_standard.specs.Callees.{WgslCallee, unknown_name}
use Rattle.wgsl_standard.specs.declared.answer.NoOverload.{NoOverload}
use Rattle.wgsl_standard.specs.declared.answer.NoOverload.TheVariants.{NoCandidate, UnknownName}

abbrev refusal_for : Option (List ℕ) → NoOverload
refusal_for (Some name) = UnknownName
refusal_for None = NoCandidate

-- why a call has no answer: nothing has its name; or no candidate takes its operands
abbrev pub refusal_of : WgslCallee → NoOverload
refusal_of callee = refusal_for (unknown_name callee)

-- the call has no answer
abbrev pub IsRefused : {A : Type 0} → Result A (Fail NoOverload) → Type 0
IsRefused {A} r = (e : NoOverload) × (r ≡ Err (Error e))

-- the call is refused for that reason, if it is refused
abbrev pub IsRefusedAs : {A : Type 0} → NoOverload → Result A (Fail NoOverload) → Type 0
IsRefusedAs reason (Err (Error e)) = e ≡ reason
IsRefusedAs reason r = Unit {0}

-- P holds of the result, or of None if there is no overload. Out of memory satisfies any P.
abbrev pub Answers : {A B : Type 0} → (A → B) → (Option B → Type 0) → Result A (Fail NoOverload) → Type 0
Answers seen P (Ok a) = P (Some (seen a))
Answers seen P (Err (Error e)) = P None
Answers seen P (Err (Memory e)) = Unit {0}

-- a type, or no value
abbrev pub AnswersType : (Option (Option WgslType) → Type 0) → Result (Option «Type») (Fail NoOverload) → Type 0
AnswersType P r = Answers (option_map view) P r
