use Rattle.std.proofs.Common.{length, map}
use Rattle.wgsl_calls.proofs.Common.{IsTypedMatrixOf, IsTypedMatrix, view}
use Rattle.wgsl_calls.proofs.AnswersAs.{answers}
use Rattle.wgsl_calls.proofs.Constructed.{columns_typed}
use Rattle.wgsl_calls.proofs.constructor.matrix.typed_matrix.Goals as goal

pub returns-in-Some : goal.returns-in-Some
returns-in-Some c = answers view (IsTypedMatrixOf c.args.name.now c.args.c c.args.r (length c.args.args.now) (view c.args.ty.now) (view c.in-Some.common.now)) (IsTypedMatrix c.args.name.now c.args.c c.args.r (map view c.args.args.now) (view c.args.ty.now)) c.typed_matrix_of_common.result
    (columns_typed c.args.name.now c.args.c c.args.r (view c.args.ty.now) (view c.in-Some.common.now) c.args.args.now c.in_default.len_at_least c.in-Some.ensures)
    c.typed_matrix_of_common.ensures
