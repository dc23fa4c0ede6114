use Rattle.std.proofs.Common.{Ok, Err, ap, sym, ◌∙◌, inl, inr}
use Rattle.wgsl_calls.proofs.Common.{length-map, param_count, view}
use Rattle.wgsl_calls.proofs.Arguments.{holds, fails}
use Rattle.wgsl_calls.proofs.Constructed.{several_typed}
use Rattle.wgsl_calls.proofs.constructor.vector.typed_vector.Goals as goal

pub returns-then-not-component_count_is : goal.returns-then-not-component_count_is
returns-then-not-component_count_is c = several_typed c.args.name.now c.args.n (view c.args.ty.now) c.args.args.now _ c.in_default.len_at_least (inl (
  holds c.all_bring_components.ensures c.if-not-all_bring_components.false,
  inr (
    fails c.component_count_is.ensures c.if-not-component_count_is.true,
    ap Err (c.in_ok-refuse_count-in_default.ensures ∙ ap (param_count c.args.name.now c.args.n) (sym (length-map c.args.args.now view))),
  ),
))

pub returns-in_ok-vector_of-in_default : goal.returns-in_ok-vector_of-in_default
returns-in_ok-vector_of-in_default c = several_typed c.args.name.now c.args.n (view c.args.ty.now) c.args.args.now _ c.in_default.len_at_least (inl (
  holds c.all_bring_components.ensures c.if-not-all_bring_components.false,
  inl (holds c.component_count_is.ensures c.if-not-component_count_is.false, ap Ok c.in_ok-vector_of-in_default.ensures),
))
