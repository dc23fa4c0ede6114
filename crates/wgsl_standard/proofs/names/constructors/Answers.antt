use Rattle.std.proofs.Common.{refl}
use Rattle.wgsl_rules.specs.standard.ConstructorNames.{constructor_table}
use Rattle.wgsl_standard.proofs.names.constructors.Goals as goal

pub returns : goal.returns
unfolding constructor_table
returns c = refl
