use Rattle.wgsl_rules.proofs.layout.OneSize.{least_placed}
use Rattle.wgsl_core.specs.View.{struct_view}
use Rattle.wgsl_core.proofs.ty.StructType.size_of.Goals as goal

pub returns : goal.returns
returns c = least_placed (struct_view c.args.self.now).members c.measure-measure.result.size c.measure-measure.ensures.size c.measure-measure.ensures.lacks
