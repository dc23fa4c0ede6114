use Rattle.wgsl_core.proofs.Built.{same_view, bool_is, exchange_is}
use Rattle.wgsl_core.proofs.ty.result_type.exchange_result.Goals as goal

pub returns : goal.returns
returns c = same_view _ _ _ (exchange_is _ _ _ c.in_ok-old_value.ensures.same bool_is) c.pair.ensures
