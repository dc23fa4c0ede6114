use Rattle.std.proofs.Common.{◌≤◌, ◌+◌, ◌<◌, length, arith, rules}
use Rattle.wgsl_requests.proofs.Steps.{comes_none, comes_some, fails, next_event}
use Rattle.wgsl_requests.proofs.expressions.expression.item_of_events.Goals as goal

pub returns-in_err-step_in : goal.returns-in_err-step_in
returns-in_err-step_in c =
    let inside : c.loop-index.index < length c.args.events.now = search rules in
    fails _ _ _ _ _ (λ none. c.loop-index.invariant.2 _ (comes_none _ _ _ _ _ _ _ _ (next_event c.args.events.now c.loop-index.index _ inside) c.closed_by-opened.ensures.exact none))
    c.from_residual-in_err-step_in.ensures.1 c.in_err-step_in.ensures

pub loop-index-preserved : goal.loop-index-preserved
loop-index-preserved c =
    let index = c.loop-index.index in
    let inside : index < length c.args.events.now = search rules in
    let fewer : c.closed_by-opened.result ≤ c.loop-index.opened = c.closed_by-opened.ensures.few in
    let few : c.opened_by-opened.result ≤ c.closed_by-opened.result + 1 = c.opened_by-opened.ensures.few in (
      omega (arith, few, fewer, c.loop-index.invariant.0),
      omega (arith, inside),
      λ r comes. c.loop-index.invariant.2 r (comes_some _ _ _ _ _ _ _ _ _ _ r (next_event c.args.events.now index _ inside)
          c.closed_by-opened.ensures.exact c.opened_by-opened.ensures.exact c.in_ok-step_in.ensures comes),
    )
