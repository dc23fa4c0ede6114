use Rattle.wgsl_core.proofs.Forms.{no_atomic_form}
use Rattle.wgsl_core.proofs.Views.{not_atomic}
use Rattle.wgsl_core.proofs.ty.Type.unwrap_atomic.Goals as goal

pub unreachable-requires : goal.unreachable-requires
unreachable-requires c = no_atomic_form _ (not_atomic _ c.in_default.not-Atomic) c.requires
