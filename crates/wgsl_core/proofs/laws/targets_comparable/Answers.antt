use Rattle.wgsl_rules.proofs.Laws.{comparable}
use Rattle.wgsl_core.proofs.laws.targets_comparable.Goals as goal

pub returns : goal.returns
returns c = comparable _ _ _
