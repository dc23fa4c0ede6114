-- What a call returns, as the rules see it.
use Rattle.std.specs.Prelude.{Option, Some, Result, Ok, Err, option_map}
use Rattle.wgsl_rules.specs.types.Types.{WgslType}
use Rattle.wgsl_rules.specs.types.Signatures.{Signature}
use Rattle.wgsl_rules.specs.errors.Refusals.{Refusal, signature}
use Rattle.wgsl_core.specs.Answer.{refusal}
use Rattle.wgsl_core.specs.ResultStruct.{result_type}
use Rattle.wgsl_core.specs.View.{view}
use Rattle.wgsl_core.specs.declared.error.Error.{Error}
use Rattle.wgsl_core.specs.declared.error.Fail.{Fail}
use Rattle.wgsl_core.specs.declared.error.Fail.TheVariants as fails
use Rattle.wgsl_calls.specs.declared.call.Returned.{Returned}
use Rattle.wgsl_calls.specs.declared.call.Returned.TheVariants as returned

-- the answer to a call with this signature
abbrev pub returned_view : Signature → Returned → Result (Option WgslType) Refusal
returned_view c (returned.Built t) = Ok (option_map view t)
returned_view c (returned.Split s) = Ok (Some (result_type s))
returned_view c returned.Refused = Err (signature c)

-- The answer satisfies P. Out of memory satisfies any P.
abbrev pub Returns : (Result (Option WgslType) Refusal → Type 0) → Signature → Result Returned (Fail Error) → Type 0
Returns P c (Ok x) = P (returned_view c x)
Returns P c (Err (fails.Error e)) = P (Err (refusal e))
Returns P c (Err (fails.Memory m)) = Unit {0}
