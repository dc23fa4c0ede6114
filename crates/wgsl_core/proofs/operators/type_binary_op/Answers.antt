use Rattle.std.proofs.Common.{rules}
use Rattle.wgsl_rules.proofs.operators.Rows.{scalars_are_leaves}
use Rattle.wgsl_core.proofs.Resolution.{chosen_result, refused_result}
use Rattle.wgsl_core.proofs.operators.type_binary_op.Goals as goal

pub returns-in_err-build-in-Some-clause-answer : goal.returns-in_err-build-in-Some-clause-answer
returns-in_err-build-in-Some-clause-answer c = record {
  row = search rules;
  least = search rules;
  never_out_of_memory_on_scalars = λ x y.
      let k = scalars_are_leaves c.in-Some.ensures x y in
      absurd (cc (c.in_err-build-in-Some.ensures.never_out_of_memory k.2));
}

pub returns-in_ok-build-in-Some-clause-answer : goal.returns-in_ok-build-in-Some-clause-answer
returns-in_ok-build-in-Some-clause-answer c = record {
  row = search rules;
  least = chosen_result c.in-Some.ensures c.in_ok-build-in-Some.ensures.same;
  never_out_of_memory_on_scalars = λ x y. tt;
}

pub returns-in_ok-refuse_binary-in-None-clause-answer : goal.returns-in_ok-refuse_binary-in-None-clause-answer
returns-in_ok-refuse_binary-in-None-clause-answer c = record {
  row = search rules;
  least = refused_result c.in-None.ensures c.in_ok-refuse_binary-in-None.ensures.names;
  never_out_of_memory_on_scalars = λ x y. tt;
}
