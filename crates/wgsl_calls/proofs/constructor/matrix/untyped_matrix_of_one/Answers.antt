use Rattle.wgsl_calls.proofs.Common.{IsUntypedMatrixOf, IsUntypedMatrixOfOne, view}
use Rattle.wgsl_calls.proofs.AnswersAs.{answers}
use Rattle.wgsl_calls.proofs.Constructed.{one_untyped, no_matrix}
use Rattle.wgsl_calls.proofs.constructor.matrix.untyped_matrix_of_one.Goals as goal

pub returns-in_default : goal.returns-in_default
returns-in_default c = answers view (IsUntypedMatrixOf c.args.name.now c.args.c c.args.r 1 (view c.args.arg.now)) (IsUntypedMatrixOfOne c.args.name.now c.args.c c.args.r (view c.args.arg.now)) c.untyped_matrix_of_common.result
    (one_untyped c.args.name.now c.args.c c.args.r (view c.args.arg.now) (no_matrix c.form.ensures c.in_default.not-Matrix)) c.untyped_matrix_of_common.ensures
