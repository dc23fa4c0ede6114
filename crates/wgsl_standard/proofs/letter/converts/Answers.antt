use Rattle.std.proofs.Common.{◌∙◌}
use Rattle.wgsl_standard.proofs.Scalars.{ranked}
use Rattle.wgsl_standard.proofs.letter.converts.Goals as goal

pub returns : goal.returns
returns c = c.is_some.ensures ∙ ranked _ _ _ c.scalar_rank.ensures
