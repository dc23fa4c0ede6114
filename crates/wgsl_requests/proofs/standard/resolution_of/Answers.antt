use Rattle.wgsl_requests.proofs.Shared.{callee_view, IsCallResolution, resolved_view}
use Rattle.wgsl_requests.proofs.Overloaded.{answered}
use Rattle.wgsl_requests.proofs.standard.resolution_of.Goals as goal

pub returns : goal.returns
returns c =
    answered resolved_view (IsCallResolution (callee_view c.args.call.now.callee)) _ c.template_type.result c.in-Some.template c.args.call.now.operands.now _ _ c.template_type.ensures c.in-Some.is
    c.resolve_callee.ensures.answer c.if_resolved.ensures
