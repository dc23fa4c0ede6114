use Rattle.wgsl_source.proofs.Measures.{align_of_three, align_of_others}
use Rattle.wgsl_source.proofs.measured.vector_align.Goals as goal

pub returns-then-count-eq3 : goal.returns-then-count-eq3
returns-then-count-eq3 c = align_of_three c.args.count c.args.scalar c.scalar_size-size.result c.times.result c.if-count-eq3.true c.scalar_size-size.ensures c.times.ensures

pub returns-else-count-eq3 : goal.returns-else-count-eq3
returns-else-count-eq3 c = align_of_others c.args.count c.from.result c.args.scalar c.scalar_size-size.result c.times-else-count-eq3.result c.if-count-eq3.false c.from.ensures c.scalar_size-size.ensures c.times-else-count-eq3.ensures
