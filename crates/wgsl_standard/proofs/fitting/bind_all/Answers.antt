use Rattle.std.proofs.Common.{sym, ◌∙◌}
use Rattle.wgsl_standard.proofs.Common.{length-map, in_order, operand_view, operands_view}
use Rattle.wgsl_standard.proofs.Lengths.{as_many, unequal_lengths}
use Rattle.wgsl_standard.proofs.fitting.bind_all.Goals as goal

pub returns-then-parameter_count-operands : goal.returns-then-parameter_count-operands
returns-then-parameter_count-operands c = sym (unequal_lengths c.args.concrete c.args.binding.now (in_order c.args.parameters.now) (operands_view c.args.operands.now) (λ e. c.if-parameter_count-operands.true (c.parameter_count.ensures ∙ e ∙ length-map c.args.operands.now operand_view)))

pub returns : goal.returns
returns c = c.bind_each.ensures ∙ as_many c.args.concrete c.args.binding.now (in_order c.args.parameters.now) (operands_view c.args.operands.now) (sym c.parameter_count.ensures ∙ c.if-parameter_count-operands.false ∙ sym (length-map c.args.operands.now operand_view))
