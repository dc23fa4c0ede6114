use Rattle.wgsl_rules.specs.internal.Nodes.{at_scalar}
use Rattle.wgsl_core.proofs.Ranks.{same_ranks, walked_rank}
use Rattle.wgsl_core.proofs.conversion.conversion_rank.Goals as goal

pub returns-in-Some : goal.returns-in-Some
returns-in-Some c =
    let s = c.in-Some in
    same_ranks _ _ _ _ _ c.without_equal_layers.ensures.rank (walked_rank _ _ (at_scalar s.source) (at_scalar s.target) _ s.ensures.0 s.ensures.1 c.scalar_rank.ensures)

pub returns-in-None : goal.returns-in-None
returns-in-None c = same_ranks _ _ _ _ _ c.without_equal_layers.ensures.rank c.rank_below_layers.ensures.rank
