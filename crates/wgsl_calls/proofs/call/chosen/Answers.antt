use Rattle.std.proofs.Common.{None, refl, subst}
use Rattle.wgsl_calls.proofs.Common.{signature_of, Chooses}
use Rattle.wgsl_calls.proofs.call.chosen.Goals as goal

pub returns-in-Some : goal.returns-in-Some
returns-in-Some c = subst (λ rows. Chooses rows (signature_of c.args.call.now) c.chosen_of.result) c.in-Some.ensures c.chosen_of.ensures

pub returns-in-None : goal.returns-in-None
returns-in-None c = subst (λ rows. Chooses rows (signature_of c.args.call.now) None) c.in-None.ensures refl
