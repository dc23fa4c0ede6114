use Rattle.wgsl_source.proofs.Measures.{array_measure}
use Rattle.wgsl_source.proofs.measured.MeasuredType.array.Goals as goal

pub returns-clause-measure : goal.returns-clause-measure
returns-clause-measure c = array_measure c.args.count c.args.self.now c.known.result c.stride.result c.array_size-size.result c.around.result c.known.ensures c.stride.ensures c.array_size-size.ensures c.around.ensures.size c.around.ensures.align
