use Rattle.std.proofs.Common.{sym, ◌∙◌}
use Rattle.wgsl_core.proofs.Resolution.{both_scalars, both_vectors, scalar_vector, vector_scalar, scalar_matrix, vector_matrix, unfit_forms, unfit_left, unfit_right, no_operand}
use Rattle.wgsl_core.proofs.operators.resolve.arithmetic.Goals as goal

pub returns-in-Scalar-form : goal.returns-in-Scalar-form
returns-in-Scalar-form c = both_scalars _ c.in-Scalar.ensures c.in-Scalar-form.ensures c.in_layers.ensures

pub returns-in-Vector-form : goal.returns-in-Vector-form
returns-in-Vector-form c = scalar_vector _ c.in-Scalar.ensures c.in-Vector-form.ensures c.in_layers-in-Vector-form.ensures

pub returns-then-is_product : goal.returns-then-is_product
returns-then-is_product c = scalar_matrix (c.is_product.ensures.0 c.if-is_product.true) c.in-Scalar.ensures c.in-Matrix-form.ensures c.in_layers-then-is_product.ensures

pub returns-else-is_product : goal.returns-else-is_product
returns-else-is_product c = unfit_forms c.in-Scalar.ensures c.in-Matrix-form.ensures (λ h. cc (sym (c.is_product.ensures.1 h) ∙ c.if-is_product.false))

pub returns-in_default-form : goal.returns-in_default-form
returns-in_default-form c = unfit_right (no_operand c.form-in-Scalar.ensures c.in_default-form.not-Scalar c.in_default-form.not-Vector c.in_default-form.not-Matrix)

pub returns-in-Scalar-form-2 : goal.returns-in-Scalar-form-2
returns-in-Scalar-form-2 c = vector_scalar _ c.in-Vector.ensures c.in-Scalar-form-2.ensures c.in_layers-in-Scalar-form-2.ensures

pub returns-in-Vector-form-2 : goal.returns-in-Vector-form-2
returns-in-Vector-form-2 c = both_vectors _ c.in-Vector.ensures c.in-Vector-form-2.ensures c.in_layers-in-Vector-form-2.ensures

pub returns-then-is_product_over : goal.returns-then-is_product_over
returns-then-is_product_over c = vector_matrix (c.is_product_over.ensures.0 c.if-is_product_over.true) c.in-Vector.ensures c.in-Matrix-form-2.ensures c.in_layers-then-is_product_over.ensures

pub returns-in_default-form-2 : goal.returns-in_default-form-2
returns-in_default-form-2 c = unfit_right (no_operand c.form-in-Vector.ensures c.in_default-form-2.not-Scalar c.in_default-form-2.not-Vector c.in_default-form-2.not-Matrix)

pub returns-in_default : goal.returns-in_default
returns-in_default c = unfit_left (no_operand c.form.ensures c.in_default.not-Scalar c.in_default.not-Vector c.in_default.not-Matrix)
