use Rattle.wgsl_calls.proofs.Common.{IsTypedMatrixOf, IsTypedMatrixOfOne, view}
use Rattle.wgsl_calls.proofs.AnswersAs.{answers}
use Rattle.wgsl_calls.proofs.Constructed.{one_typed, no_matrix}
use Rattle.wgsl_calls.proofs.constructor.matrix.typed_matrix_of_one.Goals as goal

pub returns-in_default : goal.returns-in_default
returns-in_default c = answers view (IsTypedMatrixOf c.args.name.now c.args.c c.args.r 1 (view c.args.ty.now) (view c.args.arg.now)) (IsTypedMatrixOfOne c.args.name.now c.args.c c.args.r (view c.args.arg.now) (view c.args.ty.now)) c.typed_matrix_of_common.result
    (one_typed c.args.name.now c.args.c c.args.r (view c.args.ty.now) (view c.args.arg.now) (no_matrix c.form.ensures c.in_default.not-Matrix)) c.typed_matrix_of_common.ensures
