use Rattle.std.proofs.Common.{refl}
use Rattle.wgsl_calls.specs.Calls.{signature_of}
use Rattle.wgsl_calls.proofs.Named.{by_chosen, by_none}
use Rattle.wgsl_calls.proofs.call.answer.Goals as goal

pub returns-in-Some : goal.returns-in-Some
returns-in-Some c = by_chosen (signature_of c.args.call.now) _ _ _ _ refl c.in-Some.ensures c.by_return_type.ensures

pub returns-in-None : goal.returns-in-None
returns-in-None c = by_none (signature_of c.args.call.now) _ _ _ refl c.in-None.ensures c.refuse.ensures
