use Rattle.std.proofs.Common.{sym}
use Rattle.wgsl_standard.proofs.Layers.{to_no_scalar}
use Rattle.wgsl_standard.proofs.forms.convert.scalar_converts.Goals as goal

pub returns-in-None : goal.returns-in-None
returns-in-None c = to_no_scalar c.args.scalar _ (sym c.in-None.ensures)
