use Rattle.wgsl_requests.proofs.Overloaded.{all_explained}
use Rattle.wgsl_requests.proofs.standard.notes_on.Goals as goal

pub returns : goal.returns
returns c =
    all_explained c.args.call.now.callee _ c.template_type.result c.in-Some.template c.args.call.now.operands.now _ c.template_type.ensures c.in-Some.is c.explain.ensures.notes c.explain.ensures.texts
