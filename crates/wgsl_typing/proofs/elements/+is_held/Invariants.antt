use Rattle.wgsl_core.specs.View.{view}
use Rattle.wgsl_core.specs.internal.Forms.{layers}
use Rattle.wgsl_typing.proofs.elements.+is_held.Given as goal

-- the layers of the type
abbrev pub decreases-is_held : goal.decreases-is_held
decreases-is_held l = layers (view l.ty.now)
