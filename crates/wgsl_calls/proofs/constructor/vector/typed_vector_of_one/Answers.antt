use Rattle.wgsl_core.specs.View.{view}
use Rattle.wgsl_calls.proofs.Arguments.{fails}
use Rattle.wgsl_calls.proofs.Constructed.{scalar_refused}
use Rattle.wgsl_calls.proofs.constructor.vector.typed_vector_of_one.Goals as goal

pub returns-in_ok-refuse_conversion-in-Scalar : goal.returns-in_ok-refuse_conversion-in-Scalar
returns-in_ok-refuse_conversion-in-Scalar c =
    scalar_refused c.args.n (view c.args.arg.now) (view c.args.ty.now) c.in-Scalar.field-0 _ c.in-Scalar.ensures
    (fails c.is_convertible_to.ensures c.if-is_convertible_to.false) c.in_ok-refuse_conversion-in-Scalar.ensures
