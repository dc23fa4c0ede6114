use Rattle.wgsl_source.proofs.Measures.{matrix_measure}
use Rattle.wgsl_source.proofs.measured.MeasuredType.matrix.Goals as goal

pub returns-clause-measure : goal.returns-clause-measure
returns-clause-measure c = matrix_measure c.args.columns c.args.rows c.from.result c.args.scalar c.vector_align-align.result c.times-size.result c.leaf.result c.from.ensures c.vector_align-align.ensures c.times-size.ensures c.leaf.ensures.size c.leaf.ensures.align
