use Rattle.wgsl_core.proofs.Common.{view, layers}
use Rattle.wgsl_core.proofs.ty.Type.+is_abstract.Given as goal

abbrev pub decreases-is_abstract : goal.decreases-is_abstract
decreases-is_abstract l = layers (view l.self.now)
