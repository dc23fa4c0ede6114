use Rattle.wgsl_source.proofs.Measures.{vector_measure}
use Rattle.wgsl_source.proofs.measured.MeasuredType.vector.Goals as goal

pub returns-clause-measure : goal.returns-clause-measure
returns-clause-measure c = vector_measure c.args.count c.from.result c.args.scalar c.scalar_size.result c.times-size.result c.vector_align.result c.leaf.result c.from.ensures c.scalar_size.ensures c.times-size.ensures c.vector_align.ensures c.leaf.ensures.size c.leaf.ensures.align
