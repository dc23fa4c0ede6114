use Rattle.wgsl_standard.proofs.CommonForms.{view, layers}
use Rattle.wgsl_standard.proofs.forms.concrete.+concrete.Given as goal

abbrev pub decreases-concrete : goal.decreases-concrete
decreases-concrete l = layers (view l.ty.now)
