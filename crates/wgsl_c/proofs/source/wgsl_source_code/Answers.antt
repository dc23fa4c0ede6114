use Rattle.wgsl_c.proofs.Transfer.{translated}
use Rattle.wgsl_c.proofs.source.wgsl_source_code.Goals as goal

pub returns : goal.returns
returns c = translated _ _ _ _ c.args.language c.code.result c.code.ensures c.hand_over.ensures
