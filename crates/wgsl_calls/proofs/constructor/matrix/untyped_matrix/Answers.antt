use Rattle.std.proofs.Common.{length, map}
use Rattle.wgsl_calls.proofs.Common.{IsUntypedMatrixOf, IsUntypedMatrix, view}
use Rattle.wgsl_calls.proofs.AnswersAs.{answers}
use Rattle.wgsl_calls.proofs.Constructed.{columns_untyped, no_columns}
use Rattle.wgsl_calls.proofs.constructor.matrix.untyped_matrix.Goals as goal

pub returns-in-Some : goal.returns-in-Some
returns-in-Some c = answers view (IsUntypedMatrixOf c.args.name.now c.args.c c.args.r (length c.args.args.now) (view c.in-Some.common.now)) (IsUntypedMatrix c.args.name.now c.args.c c.args.r (map view c.args.args.now)) c.untyped_matrix_of_common.result
    (columns_untyped c.args.name.now c.args.c c.args.r (view c.in-Some.common.now) c.args.args.now c.in_default.len_at_least c.in-Some.ensures)
    c.untyped_matrix_of_common.ensures

pub returns-in-empty : goal.returns-in-empty
returns-in-empty c = no_columns c.args.name.now c.args.c c.args.r c.args.args.now c.in-empty.len_below
