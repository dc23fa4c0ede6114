use Rattle.wgsl_core.proofs.Forms.{no_vector_form}
use Rattle.wgsl_core.proofs.Views.{not_vec}
use Rattle.wgsl_core.proofs.ty.Type.unwrap_vec.Goals as goal

pub unreachable-requires : goal.unreachable-requires
unreachable-requires c = no_vector_form _ (not_vec _ c.in_default.not-Vec) c.requires
