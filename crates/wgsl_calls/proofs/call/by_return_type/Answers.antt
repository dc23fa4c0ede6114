use Rattle.std.proofs.Common.{rules, Err, Ok, Some, Option, Result}
use Rattle.wgsl_calls.proofs.Common.{Refusal, given, signature, WgslType, Signature, hit_positions_type, ray_intersection_struct, IsReturnType, signature_of, MayBeOutOfMemory}
use Rattle.wgsl_calls.proofs.OutOfMemory.{by_answer, by_memory, no_leaf_intersection, unbuilt}
use Rattle.wgsl_calls.proofs.call.by_return_type.Goals.{in-Concrete, in-AsLong, in-InVector, in-Transposed, in-TextureSize, in-ResultOf, in-ExchangeResult, in-RayIntersection, in-HitPositions}
use Rattle.wgsl_calls.proofs.call.by_return_type.Goals as goal

pub returns-in_err-built-in-Some : goal.returns-in_err-built-in-Some
returns-in_err-built-in-Some c =
    let call : Signature = signature_of c.args.call.now in
    let gives : Result (Option WgslType) Refusal → Type 0 = IsReturnType c.args.return_type call in
    let found : (a : Result (Option WgslType) Refusal) × gives a × MayBeOutOfMemory a = elim c.match-return_type.branch [
      | in-Concrete w ↦ unbuilt gives call _ _ _ _ w.concrete-built.ensures (search rules) c.in_err-built-in-Some.was (search rules)
      | in-AsLong w ↦ unbuilt gives call _ _ _ _ w.built-built.ensures (search rules) c.in_err-built-in-Some.was (search rules)
      | in-InVector w ↦ unbuilt gives call _ _ _ _ w.built-built-in-InVector.ensures (search rules) c.in_err-built-in-Some.was (search rules)
      | in-Transposed w ↦ unbuilt gives call _ _ _ _ w.built-built-in-Transposed.ensures (search rules) c.in_err-built-in-Some.was (search rules)
      | in-TextureSize w ↦ unbuilt gives call _ _ _ _ w.built-built-in-TextureSize.ensures (search rules) c.in_err-built-in-Some.was (search rules)
      | in-ResultOf w ↦ unbuilt gives call _ _ _ _ w.split-built.ensures (search rules) c.in_err-built-in-Some.was (search rules)
      | in-ExchangeResult w ↦ unbuilt gives call _ _ _ _ w.exchanged-built.ensures (search rules) c.in_err-built-in-Some.was (search rules)
      | in-RayIntersection w ↦ (Ok (Some ray_intersection_struct), search rules, no_leaf_intersection)
      | in-HitPositions w ↦ (Ok (Some hit_positions_type), search rules, λ h. h)
    ] in
    by_memory gives _ _ _ found c.from_residual.ensures.1

pub returns-in-None : goal.returns-in-None
returns-in-None c =
    by_answer (IsReturnType c.args.return_type (signature_of c.args.call.now)) _ (Err (signature (signature_of c.args.call.now))) _
    (elim c.match-return_type.branch [
      | in-Concrete w ↦ search rules
      | in-AsLong w ↦ search rules
      | in-InVector w ↦ search rules
      | in-Transposed w ↦ search rules
      | in-TextureSize w ↦ search rules
      | in-ResultOf w ↦ search rules
      | in-ExchangeResult w ↦ search rules
      | in-RayIntersection w ↦ search rules
      | in-HitPositions w ↦ search rules
    ])
    c.refuse.ensures

pub returns-in-Of : goal.returns-in-Of
returns-in-Of c =
    by_answer (IsReturnType c.args.return_type (signature_of c.args.call.now)) _ (given (signature_of c.args.call.now) _) _
    (search rules) c.copied.ensures
