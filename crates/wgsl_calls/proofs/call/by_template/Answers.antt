use Rattle.std.proofs.Common.{ap, option_map}
use Rattle.wgsl_calls.proofs.OutOfMemory.{no_template}
use Rattle.wgsl_calls.proofs.call.by_template.Goals as goal

pub returns-in-None : goal.returns-in-None
returns-in-None c = no_template _ _ _ (ap (option_map _) c.in-None.is) c.refuse.ensures
