use Rattle.wgsl_c.proofs.Transfer.{told}
use Rattle.wgsl_c.proofs.source.wgsl_module_check.Goals as goal

pub returns : goal.returns
returns c = told _ _ _ _ c.checked.result c.checked.ensures c.hand_over.ensures
