use Rattle.wgsl_standard.proofs.CommonForms.{view, layers}
use Rattle.wgsl_standard.proofs.forms.concrete.+has_abstract_type.Given as goal

abbrev pub decreases-has_abstract_type : goal.decreases-has_abstract_type
decreases-has_abstract_type l = layers (view l.ty.now)
