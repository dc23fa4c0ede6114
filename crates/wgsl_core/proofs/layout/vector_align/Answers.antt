use Rattle.wgsl_core.proofs.Common.{other_align, view, IsValue}
use Rattle.wgsl_core.proofs.layout.vector_align.Goals as goal

pub returns-else-n-eq3 : goal.returns-else-n-eq3
returns-else-n-eq3 c = other_align c.args.rules c.args.n c.from.result (view c.args.ty.now) c.times.result (IsValue c.args.size) c.if-n-eq3.false c.from.ensures c.times.ensures
