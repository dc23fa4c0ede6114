use Rattle.std.proofs.Common.{Some, None, sym, subst}
use Rattle.wgsl_calls.proofs.Common.{IsCommon, IsFoldedFrom, none_stays, view}
use Rattle.wgsl_calls.proofs.Arguments.{all_inside, inside_at, left_common_at, none_inside}
use Rattle.wgsl_calls.proofs.constructor.vector.common_component.Goals as goal

pub returns-in_err-common : goal.returns-in_err-common
returns-in_err-common c = left_common_at _ _ _ (sym c.from_residual-in_err-common.ensures)
    (c.loop-arg.invariant None
    (subst (λ ts. IsFoldedFrom (Some (view c.loop-arg.common.now)) ts None)
    (sym (inside_at c.in_ok-first.rest.now c.loop-arg.arg-index c.arg-item.result c.loop-arg-test.true c.arg-item.is))
    (None, subst (λ t. IsCommon (view c.loop-arg.common.now) t None) c.inner.ensures c.in_err-common.ensures.common, none_stays _)))

pub loop-arg-preserved : goal.loop-arg-preserved
loop-arg-preserved c = λ r h. c.loop-arg.invariant r
    (subst (λ ts. IsFoldedFrom (Some (view c.loop-arg.common.now)) ts r)
    (sym (inside_at c.in_ok-first.rest.now c.loop-arg.arg-index c.arg-item.result c.loop-arg-test.true c.arg-item.is)) (
      Some (view c.in_ok-common.common.now),
      subst (λ t. IsCommon (view c.loop-arg.common.now) t (Some (view c.in_ok-common.common.now))) c.inner.ensures c.in_ok-common.ensures.common,
      h,
    ))

pub returns-in_err-first : goal.returns-in_err-first
returns-in_err-first c = left_common_at _ _ _ (sym c.from_residual.ensures) (none_inside c.args.args.now c.in_err-first.ensures.cases)

pub loop-arg-init : goal.loop-arg-init
loop-arg-init c = all_inside c.args.args.now c.in_ok-first.rest.now c.in_ok-first.first.now (view c.inner-common.result.now) c.in_ok-first.ensures.cases.0 c.inner-common.ensures
