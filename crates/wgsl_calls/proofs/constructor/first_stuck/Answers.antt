use Rattle.std.proofs.Common.{rules, None, Some, sym, subst, inl, refl}
use Rattle.wgsl_calls.proofs.Common.{view, IsStuckAt}
use Rattle.wgsl_calls.proofs.Arguments.{argument_at, no_argument_at, not_stuck}
use Rattle.wgsl_calls.proofs.constructor.first_stuck.Goals as goal

pub returns-then-not-is_convertible_to : goal.returns-then-not-is_convertible_to
returns-then-not-is_convertible_to c =
    let here = argument_at c.args.args.now c.loop-arg.arg-index c.arg-item.result c.loop-arg-test.true c.arg-item.is in
    let stuck = c.is_convertible_to.ensures in
    c.loop-arg.invariant (Some (view c.arg-item.result))
    (subst (λ ts. IsStuckAt (view c.args.ty.now) ts (Some (view c.arg-item.result))) (sym here) (inl (search rules, refl)))

pub loop-arg-preserved : goal.loop-arg-preserved
loop-arg-preserved c =
    let here = argument_at c.args.args.now c.loop-arg.arg-index c.arg-item.result c.loop-arg-test.true c.arg-item.is in
    λ r h. c.loop-arg.invariant r (subst (λ ts. IsStuckAt (view c.args.ty.now) ts r) (sym here)
    (not_stuck (view c.args.ty.now) (view c.arg-item.result) _ r (c.is_convertible_to.ensures.0 (search rules)) h))

pub returns : goal.returns
returns c =
    c.loop-arg.invariant None
    (subst (λ ts. IsStuckAt (view c.args.ty.now) ts None) (sym (no_argument_at c.args.args.now c.loop-arg.arg-index c.loop-arg-test.false)) (λ k d. search rules))
