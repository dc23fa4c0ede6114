use Rattle.std.proofs.Common.{Some, None, Ok, Err, refl, ap, sym, ◌∙◌, inl, inr}
use Rattle.wgsl_calls.proofs.Common.{length-map, param_count, view}
use Rattle.wgsl_calls.proofs.Arguments.{holds, fails}
use Rattle.wgsl_calls.proofs.Constructed.{several_untyped}
use Rattle.wgsl_calls.proofs.constructor.vector.untyped_vector.Goals as goal

pub returns-then-not-component_count_is : goal.returns-then-not-component_count_is
returns-then-not-component_count_is c = several_untyped c.args.name.now c.args.n c.args.args.now _ c.in_default.len_at_least (inl (
  holds c.all_scalars_or_vectors.ensures c.if-not-all_scalars_or_vectors.false,
  inr (
    fails c.component_count_is.ensures c.if-not-component_count_is.true,
    ap Err (c.in_ok-refuse_count-in_default.ensures ∙ ap (param_count c.args.name.now c.args.n) (sym (length-map c.args.args.now view))),
  ),
))

pub returns-in_ok-vector_of-in-Some : goal.returns-in_ok-vector_of-in-Some
returns-in_ok-vector_of-in-Some c = several_untyped c.args.name.now c.args.n c.args.args.now _ c.in_default.len_at_least (inl (
  holds c.all_scalars_or_vectors.ensures c.if-not-all_scalars_or_vectors.false,
  inl (
    holds c.component_count_is.ensures c.if-not-component_count_is.false,
    (Some (view c.in-Some.common.now), c.in-Some.ensures, ap Ok c.in_ok-vector_of-in-Some.ensures),
  ),
))

pub returns-in-None : goal.returns-in-None
returns-in-None c = several_untyped c.args.name.now c.args.n c.args.args.now _ c.in_default.len_at_least (inl (
  holds c.all_scalars_or_vectors.ensures c.if-not-all_scalars_or_vectors.false,
  inl (holds c.component_count_is.ensures c.if-not-component_count_is.false, (None, c.in-None.ensures, refl)),
))
