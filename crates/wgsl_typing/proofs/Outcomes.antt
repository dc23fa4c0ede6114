-- What a call is that resolves to something, and what is declared with a value.
use Rattle.std.proofs.Common.{◌≡◌, List, Option, Result, Ok, Err, IfOk, Some, None, option_map, sym, subst, ap, ◌∙◌}
use Rattle.wgsl_typing.proofs.Common.{AllocError, view, Operand, WgslType, WgslCallee, IsCallResolution, IsInferredArray, resolved_view, ResolvedCall, Refusal, Outcome, Part, Typed, Stage, IsHeld, IsHeldFor, answer_of, Unresolved}
use Rattle.wgsl_core.specs.declared.ty.Type.{«Type»}
use Rattle.wgsl_standard.specs.declared.forms.form.Referent.TheVariants.{Whole}
use Rattle.wgsl_typing.specs.declared.known.Outcome.TheVariants as outcomes
use Rattle.wgsl_typing.specs.Counts.{unless_counted}
use Rattle.wgsl_typing.specs.Outcomes.{HasResult, HasType, IsAnswer, IsFound, IsInferred, IsInferredAs, IsMade, IsOverloaded, IsType, OrFaulty, resolved, stage_of, types_of}

or_faulty_of : (P : Outcome → Type 0) (o : Outcome) → P o → OrFaulty P o
or_faulty_of P (outcomes.Typed x) p = p
or_faulty_of P outcomes.NoValue p = p
or_faulty_of P outcomes.Faulty p = tt

pub overloaded : (callee : WgslCallee) (template : Option WgslType) (xs : List Operand) (stage : Stage) (found : Result ResolvedCall Unresolved) (call : ResolvedCall) (o : Outcome)
    → Some (resolved_view call) ≡ resolved found → IsCallResolution callee template xs (resolved found) → HasResult stage (option_map view call.result) o
    → IsOverloaded callee template xs stage o
overloaded callee template xs stage found call o same resolves has =
    (Some (resolved_view call), subst (IsCallResolution callee template xs) (sym same) resolves, or_faulty_of (HasResult stage (option_map view call.result)) o has)

pub faulty_overloaded : (callee : WgslCallee) (template : Option WgslType) (xs : List Operand) (stage : Stage) (found : Result ResolvedCall Unresolved) (call : ResolvedCall)
    → Some (resolved_view call) ≡ resolved found → IsCallResolution callee template xs (resolved found) → IsOverloaded callee template xs stage outcomes.Faulty
faulty_overloaded callee template xs stage found call same resolves =
    (Some (resolved_view call), subst (IsCallResolution callee template xs) (sym same) resolves, tt)

abbrev type_or : WgslType → Option WgslType → WgslType
type_or t None = t
type_or t (Some u) = u

abbrev IsThere : Option WgslType → Type 0
IsThere None = ⊥
IsThere (Some t) = Unit {0}

held_as : (stage : Stage) (answer : Result WgslType Refusal) (t : WgslType) (r : Option Typed) → Some t ≡ answer_of answer → IsHeld stage (Ok t) r → IsHeld stage answer r
held_as stage (Ok u) t r same held = let P : WgslType → Type 0 = λ t. IsHeld stage (Ok t) r in subst P (ap (type_or t) same) held
held_as stage (Err e) t r same held = absurd (subst IsThere same tt)

held_in : (stage : Stage) (answer : Result WgslType Refusal) (t : WgslType) (r : Result (Option Typed) AllocError)
    → Some t ≡ answer_of answer → IfOk r (IsHeld stage (Ok t)) → IfOk r (IsHeld stage answer)
held_in stage answer t (Ok r) same held = held_as stage answer t r same held
held_in stage answer t (Err e) same held = held

-- what is declared with a value
pub held_for : (Answer : Typed → Result WgslType Refusal) (stage : Stage) (r : Result (Option Typed) AllocError) {v : Option Typed} {x : Typed} {a : Result WgslType Refusal} {t : WgslType}
    → Some x ≡ v → a ≡ Answer x → Some t ≡ answer_of a → IfOk r (IsHeld stage (Ok t)) → IfOk r (IsHeldFor Answer stage v)
held_for Answer stage r {v} {x} {a} {t} value same built held =
    let P : Option Typed → Type 0 = λ v. IfOk r (IsHeldFor Answer stage v) in
    subst P value (held_in stage (Answer x) t r (built ∙ ap answer_of same) held)

-- what is made is what the form makes

made_as : {E : Type 0} (stage : Stage) (answer : Result WgslType Refusal) (found : Result «Type» E) (o : Outcome)
    → IsAnswer IsType answer found → IsFound stage found o → IsMade stage answer o
made_as stage (Ok t) (Ok ty) o is has = let P : WgslType → Type 0 = λ t. HasType t stage Whole o in subst P is has
made_as stage (Err e) (Err message) o is faulty = faulty
made_as stage (Ok t) (Err message) o is faulty = absurd is
made_as stage (Err e) (Ok ty) o is has = absurd is

pub made_in : {E : Type 0} (stage : Stage) (answer : Result WgslType Refusal) (found : Result «Type» E) (r : Result Outcome AllocError)
    → IsAnswer IsType answer found → IfOk r (IsFound stage found) → IfOk r (IsMade stage answer)
made_in stage answer found (Ok o) is made = made_as stage answer found o is made
made_in stage answer found (Err e) is made = made

pub inferred_in : {E : Type 0} (xs : List Part) (found : Result «Type» E) (r : Result Outcome AllocError)
    → IsInferredAs xs found → IfOk r (IsFound (stage_of xs) found) → IfOk r (IsInferred xs)
inferred_in xs found (Ok o) is made = (is.0, is.1, made_as (stage_of xs) (unless_counted is.0) found o is.2 made)
inferred_in xs found (Err e) is made = made

-- the array, unless an override counts its elements, by the parts that were shown
pub inferred_unless : {E : Type 0} (ps : List Part) (answer : Result WgslType Refusal) {t : WgslType} (r : Result (Result «Type» E) AllocError)
    → IsInferredArray (types_of ps) answer → Ok t ≡ answer → IfOk r (IsAnswer IsType (unless_counted (Ok t))) → IfOk r (IsInferredAs ps)
inferred_unless {E} ps answer (Ok found) is same answered =
    let P : Result WgslType Refusal → Type 0 = λ a. IsAnswer IsType (unless_counted a) found in (answer, is, subst P same answered)
inferred_unless {E} ps answer (Err e) is same answered = answered
