use Rattle.wgsl_rules.proofs.operators.Rows.{compared_apart}
use Rattle.wgsl_core.proofs.Resolution.{compared_scalars, compared_vectors, form_not_compared}
use Rattle.wgsl_core.proofs.operators.resolve.comparison.Goals as goal

pub returns-in_err-common : goal.returns-in_err-common
returns-in_err-common c o h = rw c.from_residual.ensures (compared_apart c.in_err-common.ensures.common h)

pub returns-in-Scalar : goal.returns-in-Scalar
returns-in-Scalar c = compared_scalars c.compared.ensures c.in-Scalar.ensures c.in_ok-common.ensures.common

pub returns-in-Vector : goal.returns-in-Vector
returns-in-Vector c = compared_vectors c.compared-in-Vector.ensures c.in-Vector.ensures c.in_ok-common.ensures.common

pub returns-in_default : goal.returns-in_default
returns-in_default c = form_not_compared c.form.ensures c.in_default.not-Scalar c.in_default.not-Vector c.in_ok-common.ensures.common
