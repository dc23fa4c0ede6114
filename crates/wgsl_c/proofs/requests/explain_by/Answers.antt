use Rattle.wgsl_c.proofs.Transfer.{explained}
use Rattle.wgsl_c.proofs.requests.explain_by.Goals as goal

pub returns : goal.returns
returns c = explained _ _ _ _ c.args.rules c.args.request.now c.explain.result c.explain.ensures c.hand_over.ensures
