use Rattle.wgsl_c.proofs.Transfer.{told}
use Rattle.wgsl_c.proofs.source.wgsl_source_layout.Goals as goal

pub returns : goal.returns
returns c = told _ _ _ _ c.layouts.result c.layouts.ensures c.hand_over.ensures
