use Rattle.wgsl_rules.proofs.operators.Rows.{scalars_are_leaves}
use Rattle.wgsl_core.proofs.Resolution.{chosen_candidate, refused_candidate}
use Rattle.wgsl_core.proofs.operators.binary_candidate.Goals as goal

pub returns-in_err-build_candidate-in-Some-clause-never_out_of_memory_on_scalars : goal.returns-in_err-build_candidate-in-Some-clause-never_out_of_memory_on_scalars
returns-in_err-build_candidate-in-Some-clause-never_out_of_memory_on_scalars c x y =
    absurd (cc (c.in_err-build_candidate-in-Some.ensures.never_out_of_memory (scalars_are_leaves c.in-Some.ensures x y)))

pub returns-in_ok-build_candidate-in-Some-clause-least : goal.returns-in_ok-build_candidate-in-Some-clause-least
returns-in_ok-build_candidate-in-Some-clause-least c = chosen_candidate _ c.in-Some.ensures c.in_ok-build_candidate-in-Some.ensures.same

pub returns-in_ok-refuse_binary-in-None-clause-least : goal.returns-in_ok-refuse_binary-in-None-clause-least
returns-in_ok-refuse_binary-in-None-clause-least c = refused_candidate c.in-None.ensures c.in_ok-refuse_binary-in-None.ensures.names
