use Rattle.wgsl_standard.proofs.Layers.{by_rank}
use Rattle.wgsl_standard.proofs.forms.convert.scalars_convert.Goals as goal

pub returns : goal.returns
returns c = rw c.is_some.ensures (by_rank _ _ c.scalar_rank.result c.scalar_rank.ensures)
