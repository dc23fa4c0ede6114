use Rattle.wgsl_rules.specs.internal.Nodes.{at_scalar}
use Rattle.wgsl_core.proofs.Ranks.{same_ranks, same_steps, walked_rank, walked_steps}
use Rattle.wgsl_core.proofs.conversion.rank_steps.Goals as goal

pub returns-in-Some-clause-rank : goal.returns-in-Some-clause-rank
returns-in-Some-clause-rank c =
    let s = c.in-Some in
    same_ranks _ _ _ _ _ c.without_equal_layers.ensures.rank (walked_rank _ _ (at_scalar s.source) (at_scalar s.target) _ s.ensures.0 s.ensures.1 c.walk.ensures.rank)

pub returns-in-Some-clause-steps : goal.returns-in-Some-clause-steps
returns-in-Some-clause-steps c =
    let s = c.in-Some in
    same_steps _ _ _ _ _ _ c.without_equal_layers.ensures.steps (walked_steps _ _ (at_scalar s.source) (at_scalar s.target) _ _ s.ensures.0 s.ensures.1 c.walk.ensures.steps)

pub returns-in-None-clause-rank : goal.returns-in-None-clause-rank
returns-in-None-clause-rank c = same_ranks _ _ _ _ _ c.without_equal_layers.ensures.rank c.rank_below_layers.ensures.rank

pub returns-in-None-clause-steps : goal.returns-in-None-clause-steps
returns-in-None-clause-steps c = same_steps _ _ _ _ _ _ c.without_equal_layers.ensures.steps c.rank_below_layers.ensures.steps
