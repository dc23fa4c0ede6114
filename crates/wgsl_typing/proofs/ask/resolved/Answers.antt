use Rattle.std.proofs.Common.{option_map}
use Rattle.wgsl_typing.proofs.Common.{view, callee_view}
use Rattle.wgsl_typing.proofs.Operands.{resolved_by_parts}
use Rattle.wgsl_typing.proofs.ask.resolved.Goals as goal

-- src/ask.rt:110:1
pub returns : goal.returns
returns c = resolved_by_parts (callee_view c.args.callee) (option_map (λ t. view t.now) c.args.template) c.args.arguments.now c.answered.result c.in_ok-operands.ensures c.deref.ensures.value c.answered.ensures
