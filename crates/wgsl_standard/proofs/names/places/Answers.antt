use Rattle.std.proofs.Common.{refl}
use Rattle.wgsl_standard.proofs.Common.{function_table, evaluation_table}
use Rattle.wgsl_standard.proofs.names.places.Goals as goal

pub returns-clause-functions : goal.returns-clause-functions
unfolding function_table
returns-clause-functions c = refl

pub returns-clause-evaluations : goal.returns-clause-evaluations
unfolding evaluation_table
returns-clause-evaluations c = refl
