use Rattle.std.proofs.Common.{◌∙◌, ap, arith, sym}
use Rattle.wgsl_standard.proofs.Common.{in_order, bind_if}
use Rattle.wgsl_standard.proofs.Lengths.{one_more_bound}
use Rattle.wgsl_standard.proofs.Listed.{listed_at, operand_at, pattern_there}
use Rattle.wgsl_standard.proofs.fitting.bind_listed.Goals as goal

pub returns-then-not-bind : goal.returns-then-not-bind
returns-then-not-bind c = one_more_bound c.args.concrete c.loop-index.binding (in_order c.args.parameters.now) c.args.operands.now c.loop-index.index _ c.index-operands-index.result _ _
    (pattern_there (in_order c.args.parameters.now) c.loop-index.index _
    (listed_at (in_order c.args.parameters.now) c.patterns_of-patterns.result c.loop-index.index c.min.result _ c.patterns_of-patterns.ensures (omega (arith, c.requires, c.loop-index-test.true)) c.min.ensures))
    (operand_at c.args.operands.now c.loop-index.index c.index-operands-index.result c.loop-index-test.true c.index-operands-index.is)
    (ap (λ y. bind_if y c.bind.new.binding) (sym c.if-not-bind.true) ∙ c.bind.ensures) c.loop-index.invariant

pub loop-index-preserved : goal.loop-index-preserved
loop-index-preserved c = one_more_bound c.args.concrete c.loop-index.binding (in_order c.args.parameters.now) c.args.operands.now c.loop-index.index _ c.index-operands-index.result _ _
    (pattern_there (in_order c.args.parameters.now) c.loop-index.index _
    (listed_at (in_order c.args.parameters.now) c.patterns_of-patterns.result c.loop-index.index c.min.result _ c.patterns_of-patterns.ensures (omega (arith, c.requires, c.loop-index-test.true)) c.min.ensures))
    (operand_at c.args.operands.now c.loop-index.index c.index-operands-index.result c.loop-index-test.true c.index-operands-index.is)
    (ap (λ y. bind_if y c.bind.new.binding) (sym c.if-not-bind.false) ∙ c.bind.ensures) c.loop-index.invariant
