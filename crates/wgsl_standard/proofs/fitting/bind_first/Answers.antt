use Rattle.std.proofs.Common.{arith, sym}
use Rattle.wgsl_standard.proofs.Common.{length-map, in_order, operand_view, operands_view}
use Rattle.wgsl_standard.proofs.Lengths.{too_many}
use Rattle.wgsl_standard.proofs.fitting.bind_first.Goals as goal

pub returns-then-operands-parameter_count : goal.returns-then-operands-parameter_count
returns-then-operands-parameter_count c = sym (too_many c.args.concrete c.args.binding.now (in_order c.args.parameters.now) (operands_view c.args.operands.now)
    (omega (arith, length-map c.args.operands.now operand_view, c.parameter_count.ensures, c.if-operands-parameter_count.true)))
