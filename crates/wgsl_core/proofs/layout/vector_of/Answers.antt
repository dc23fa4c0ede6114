use Rattle.wgsl_core.specs.View.{view}
use Rattle.wgsl_core.proofs.Layouts.{vector_measure}
use Rattle.wgsl_core.proofs.layout.vector_of.Goals as goal

pub returns : goal.returns
returns c =
    vector_measure c.args.n c.from.result (view c.args.ty.now) c.args.component c.times.result c.vector_align.result
    c.from.ensures c.requires c.times.ensures c.vector_align.ensures
