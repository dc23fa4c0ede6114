use Rattle.std.proofs.Common.{refl}
use Rattle.wgsl_rules.specs.standard.ConstructorNames.{template_constructor_table}
use Rattle.wgsl_standard.proofs.names.templates.Goals as goal

pub returns : goal.returns
unfolding template_constructor_table
returns c = refl
