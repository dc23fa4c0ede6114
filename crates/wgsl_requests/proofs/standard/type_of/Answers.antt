use Rattle.wgsl_requests.proofs.Shared.{false, true, option_map, IsCallAnswer, overloads_of}
use Rattle.wgsl_standard.specs.Results.{result_view}
use Rattle.wgsl_requests.proofs.Overloaded.{answered}
use Rattle.wgsl_requests.proofs.standard.type_of.Goals as goal

pub returns : goal.returns
returns c =
    let P = IsCallAnswer (overloads_of c.args.call.now.callee false) (overloads_of c.args.call.now.callee true) in
    answered (option_map result_view) P _ c.template_type.result c.in-Some.template c.args.call.now.operands.now _ _ c.template_type.ensures c.in-Some.is c.type_of_call.ensures.answer c.if_resolved.ensures
