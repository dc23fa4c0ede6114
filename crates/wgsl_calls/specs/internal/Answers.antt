-- How the rules see the answer of a call, and when the call may be out of memory.
use Rattle.std.specs.Prelude.{◌≡◌, List, Option, Some, None, Result, Ok, Err, option_map}
use Rattle.std.specs.declared.alloc.AllocError.{AllocError}
use Rattle.wgsl_rules.specs.types.Types.{WgslType}
use Rattle.wgsl_rules.specs.types.Kinds.{IsLeaf}
use Rattle.wgsl_rules.specs.types.Signatures.{Parameter, Signature}
use Rattle.wgsl_rules.specs.errors.Refusals.{Refusal, signature}
use Rattle.wgsl_syntax.specs.declared.call.Row.{Row}
use Rattle.wgsl_syntax.specs.declared.call.ReturnType.{ReturnType}
use Rattle.wgsl_rules.specs.calls.Rows.{IsReturnType}
use Rattle.wgsl_rules.specs.calls.Answers.{IsAnswerOf}
use Rattle.wgsl_core.specs.View.{view}
use Rattle.wgsl_core.specs.Answer.{refusal}
use Rattle.wgsl_core.specs.declared.ty.Type.{«Type»}
use Rattle.wgsl_core.specs.declared.error.Error.{Error}
use Rattle.wgsl_core.specs.declared.error.Fail.{Fail}
use Rattle.wgsl_core.specs.declared.error.Fail.TheVariants as fails
use Rattle.wgsl_calls.specs.declared.call.fit.NamedCall.{NamedCall}
use Rattle.wgsl_calls.specs.Calls.{signature_of}

abbrev pub template_of : NamedCall → Option (List Parameter)
template_of c = (signature_of c).template

-- Out of memory may stand for this answer: any but no value and leaf types.
abbrev pub MayBeOutOfMemory : Result (Option WgslType) Refusal → Type 0
MayBeOutOfMemory (Err e) = Unit {0}
MayBeOutOfMemory (Ok None) = ⊥
MayBeOutOfMemory (Ok (Some t)) = ¬ IsLeaf t

-- The type is built, if there is one. Out of memory stands for any but leaf types.
abbrev pub IsBuilt : Option WgslType → Option (Result «Type» AllocError) → Type 0
IsBuilt None None = Unit {0}
IsBuilt (Some t) (Some (Ok u)) = t ≡ view u
IsBuilt (Some t) (Some (Err e)) = ¬ IsLeaf t
IsBuilt t built = ⊥

-- The result is the answer.
abbrev pub IsMet : Result (Option WgslType) Refusal → Result (Option «Type») (Fail Error) → Type 0
IsMet a (Ok t) = a ≡ Ok (option_map view t)
IsMet a (Err (fails.Error e)) = a ≡ Err (refusal e)
IsMet a (Err (fails.Memory m)) = MayBeOutOfMemory a

-- The result satisfies P. Without a template, out of memory stands for an answer of P that it may stand for.
abbrev pub Answered : (Result (Option WgslType) Refusal → Type 0) → Option (List Parameter) → Result (Option «Type») (Fail Error) → Type 0
Answered P p (Ok t) = P (Ok (option_map view t))
Answered P p (Err (fails.Error e)) = P (Err (refusal e))
Answered P p (Err (fails.Memory m)) = p ≡ None → (a : Result (Option WgslType) Refusal) × P a × MayBeOutOfMemory a

-- The answer by the rows is the type that this return type gives, or the refusal if there is none.
abbrev pub Chooses : List Row → Signature → Option ReturnType → Type 0
Chooses rows c None = IsAnswerOf rows c (Err (signature c))
Chooses rows c (Some o) = (a : Result (Option WgslType) Refusal) → IsReturnType o c a → IsAnswerOf rows c a
