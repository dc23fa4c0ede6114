use Rattle.std.proofs.Common.{Err, Ok, option_map, refl, rules, subst, sym}
use Rattle.std.proofs.lemmas.Result.{err_from_is_err_and}
use Rattle.wgsl_rules.specs.calls.Answers.{IsCallAnswer}
use Rattle.wgsl_core.specs.ResultStruct.{result_type}
use Rattle.wgsl_calls.specs.Returned.{Returns}
use Rattle.wgsl_calls.proofs.Common.{given, signature_of}
use Rattle.wgsl_calls.proofs.Named.{by_chosen, not_returned, refused, unbuilt_answered}
use Rattle.wgsl_calls.proofs.call.returned_by.Goals as goal

pub returns-in-Some-ResultOf : goal.returns-in-Some-ResultOf
returns-in-Some-ResultOf c =
    let call = signature_of c.args.call.now in
    unbuilt_answered call _ _ (given call (option_map result_type c.split_result.result)) _ refl c.in-Some-ResultOf.ensures (search rules) (c.unbuilt.ensures call)

pub returns-in_ok-by_return_type-in-Some : goal.returns-in_ok-by_return_type-in-Some
returns-in_ok-by_return_type-in-Some c =
    let call = signature_of c.args.call.now in
    let made = c.in_ok-by_return_type-in-Some in
    by_chosen call _ c.in-Some.return_type call.template (Ok made.field-0) refl c.in-Some.ensures made.ensures

pub returns-in_err-by_return_type-in-Some : goal.returns-in_err-by_return_type-in-Some
returns-in_err-by_return_type-in-Some c =
    let call = signature_of c.args.call.now in
    let made = c.in_err-by_return_type-in-Some in
    let p = err_from_is_err_and c.from_residual.result c.from_residual.ensures.1 in
    rw p.1 (subst (λ f. Returns (IsCallAnswer call) call (Err f)) (sym p.2) (not_returned call call.template made.field-0.0 (by_chosen call _ c.in-Some.return_type call.template (Err made.field-0.0) refl c.in-Some.ensures made.ensures)))

pub returns-in-None : goal.returns-in-None
returns-in-None c = refused (signature_of c.args.call.now) _ refl c.in-None.ensures
