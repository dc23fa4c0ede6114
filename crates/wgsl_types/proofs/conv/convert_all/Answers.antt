use Rattle.wgsl_core.specs.View.{view}
use Rattle.wgsl_types.proofs.All.{IfAnswered_then}
use Rattle.wgsl_types.proofs.conv.convert_all.Goals as goal

pub returns-clause-one_type : goal.returns-clause-one_type
returns-clause-one_type g c = IfAnswered_then c.convert_all_to.result (λ v all. (view c.in-Some.ty.now, all)) c.convert_all_to.ensures.one_type
