use Rattle.wgsl_core.proofs.Resolution.{bools_found, same_candidate}
use Rattle.wgsl_core.proofs.operators.resolve.logical.Goals as goal

pub returns-then-are_bools : goal.returns-then-are_bools
returns-then-are_bools c = bools_found (c.are_bools.ensures.0 c.if-are_bools.true) (same_candidate c.of.ensures c.of-then-are_bools.ensures c.of-then-are_bools-2.ensures)
