use Rattle.wgsl_standard.specs.forms.Views.{given}
use Rattle.wgsl_standard.proofs.Swizzles.{load}
use Rattle.wgsl_standard.proofs.forms.laws.swizzles_load.Goals as goal

pub returns : goal.returns
returns c = load (given c.args.x.now) c.args.name.now
