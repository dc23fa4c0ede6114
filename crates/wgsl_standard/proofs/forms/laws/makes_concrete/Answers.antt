use Rattle.wgsl_core.specs.View.{view}
use Rattle.wgsl_standard.proofs.ConcreteTypes.{makes_concrete}
use Rattle.wgsl_standard.proofs.forms.laws.makes_concrete.Goals as goal

pub returns : goal.returns
returns c = makes_concrete (view c.args.ty.now)
