use Rattle.wgsl_module.proofs.Kept.{reordered}
use Rattle.wgsl_module.proofs.told.in_order.Goals as goal

pub returns : goal.returns
returns c = reordered _ _ _ c.distinct.result (c.in_ok-all.ensures) c.sort_unstable_by_key.ensures.permutation c.distinct.ensures
