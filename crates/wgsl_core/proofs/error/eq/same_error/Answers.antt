use Rattle.wgsl_core.proofs.Fields.{errors_same}
use Rattle.wgsl_core.proofs.error.eq.same_error.Goals as goal

pub returns : goal.returns
returns c = errors_same _ _ _ _ _ c.fields.ensures c.fields-2.ensures c.eq.ensures
