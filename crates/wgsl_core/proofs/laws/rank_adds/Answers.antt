use Rattle.wgsl_rules.proofs.Laws.{adds}
use Rattle.wgsl_core.proofs.laws.rank_adds.Goals as goal

pub returns : goal.returns
returns c = adds _ _ _
