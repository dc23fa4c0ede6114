use Rattle.std.proofs.Common.{Err, None, option_map, ap, sym, ◌∙◌}
use Rattle.wgsl_calls.proofs.Common.{IsMatrixOf, IsTypedMatrixOf, conversion, view}
use Rattle.wgsl_calls.proofs.Arguments.{fails, holds}
use Rattle.wgsl_calls.proofs.AnswersAs.{answers}
use Rattle.wgsl_calls.proofs.Constructed.{not_inside, typed_element, typed_whole}
use Rattle.wgsl_calls.proofs.constructor.matrix.typed_matrix_of_common.Goals as goal

pub returns-then-not-converts_inside : goal.returns-then-not-converts_inside
returns-then-not-converts_inside c = (
  None,
  not_inside _ _ (fails c.converts_inside.ensures c.if-not-converts_inside.true),
  ap Err (c.in_ok-refuse_conversion.ensures ∙ ap (λ x. conversion x (view c.args.ty.now)) c.inner.ensures),
)

pub returns-in-Some : goal.returns-in-Some
returns-in-Some c =
    let t = view c.args.ty.now in
    let u = view c.args.common.now in
    answers view (IsMatrixOf c.args.name.now c.args.c c.args.r c.args.number t u) (IsTypedMatrixOf c.args.name.now c.args.c c.args.r c.args.number t u) c.matrix_out_of.result
    (typed_element _ _ _ _ u t _ _ (sym c.layer.ensures ∙ ap (option_map _) c.in-Some.is) (holds c.converts_inside.ensures c.if-not-converts_inside.false)) c.matrix_out_of.ensures

pub returns-in-None : goal.returns-in-None
returns-in-None c =
    let t = view c.args.ty.now in
    let u = view c.args.common.now in
    answers view (IsMatrixOf c.args.name.now c.args.c c.args.r c.args.number t t) (IsTypedMatrixOf c.args.name.now c.args.c c.args.r c.args.number t u) c.matrix_out_of-in-None.result
    (typed_whole _ _ _ _ u t (sym c.layer.ensures ∙ ap (option_map _) c.in-None.is) (holds c.converts_inside.ensures c.if-not-converts_inside.false)) c.matrix_out_of-in-None.ensures
