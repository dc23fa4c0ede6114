use Rattle.wgsl_core.proofs.Ranks.{ranked}
use Rattle.wgsl_core.proofs.ty.Type.is_convertible_to.Goals as goal

pub returns : goal.returns
returns c = rw c.is_some.ensures (ranked _ _ _ c.conversion_rank.ensures)
