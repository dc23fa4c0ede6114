use Rattle.wgsl_standard.proofs.CommonForms.{view, layers}
use Rattle.wgsl_standard.proofs.forms.concrete.+write_concrete.Given as goal

abbrev pub decreases-write_concrete : goal.decreases-write_concrete
decreases-write_concrete g l = layers (view l.ty.now)
