use Rattle.std.proofs.Common.{refl}
use Rattle.wgsl_standard.proofs.Common.{function_table, evaluation_table}
use Rattle.wgsl_standard.proofs.names.function_list.Goals as goal

pub returns-clause-rows : goal.returns-clause-rows
unfolding function_table
returns-clause-rows c = refl

pub returns-clause-evaluations : goal.returns-clause-evaluations
unfolding evaluation_table
returns-clause-evaluations c = refl
