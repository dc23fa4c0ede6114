use Rattle.wgsl_core.proofs.Forms.{no_struct_form}
use Rattle.wgsl_core.proofs.Views.{not_struct}
use Rattle.wgsl_core.proofs.ty.Type.unwrap_struct.Goals as goal

pub unreachable-requires : goal.unreachable-requires
unreachable-requires c = no_struct_form _ (not_struct _ c.in_default.not-Struct) c.requires
