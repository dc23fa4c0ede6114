use Rattle.wgsl_core.proofs.Built.{same_view}
use Rattle.wgsl_core.proofs.ty.result_type.ray_intersection.Goals as goal

pub returns : goal.returns
returns c = same_view _ _ _ c.in_ok-push_intersection.ensures c.struct_of.ensures
