use Rattle.wgsl_core.proofs.Resolution.{matrix_scalar, matrix_vector, matrix_product, matrix_sum, unfit_right, no_operand}
use Rattle.wgsl_core.proofs.operators.resolve.matrix_by.Goals as goal

pub returns-then-is_product : goal.returns-then-is_product
returns-then-is_product c = matrix_scalar (c.is_product.ensures.0 c.if-is_product.true) c.in-Scalar.ensures c.in_layers.ensures

pub returns-then-is_product_over : goal.returns-then-is_product_over
returns-then-is_product_over c = matrix_vector (c.is_product_over.ensures.0 c.if-is_product_over.true) c.in-Vector.ensures c.in_layers-then-is_product_over.ensures

pub returns-then-is_product_over-2 : goal.returns-then-is_product_over-2
returns-then-is_product_over-2 c = matrix_product (c.is_product_over-in-Matrix.ensures.0 c.if-is_product_over-2.true) c.in-Matrix.ensures c.in_layers-then-is_product_over-2.ensures

pub returns-then-is_sum_of : goal.returns-then-is_sum_of
returns-then-is_sum_of c = matrix_sum _ (c.is_sum_of.ensures.0 c.if-is_sum_of.true) c.in-Matrix.ensures c.in_layers-then-is_sum_of.ensures

pub returns-in_default : goal.returns-in_default
returns-in_default c = unfit_right (no_operand c.form.ensures c.in_default.not-Scalar c.in_default.not-Vector c.in_default.not-Matrix)
