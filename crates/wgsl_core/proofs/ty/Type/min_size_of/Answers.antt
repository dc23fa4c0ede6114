use Rattle.wgsl_core.proofs.Layouts.{least_by_form}
use Rattle.wgsl_core.proofs.ty.Type.min_size_of.Goals as goal

pub returns-in_default : goal.returns-in_default
returns-in_default c = least_by_form c.size_of.result c.form.ensures c.in_default.not-Array c.size_of.ensures.exact
