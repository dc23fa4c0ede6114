use Rattle.wgsl_requests.proofs.Common.{◌<◌, length, sym, arith, rules, common_steps}
use Rattle.wgsl_requests.proofs.Steps.{asked_next}
use Rattle.wgsl_requests.proofs.expressions.request_token.as_asked.Goals as goal

pub loop-at-preserved : goal.loop-at-preserved
loop-at-preserved c =
    let inside : c.loop-at.at < length c.loop-at.tokens = search rules in (
      grind (arith, common_steps, inside),
      asked_next c.args.text.now c.loop-at.before _ c.loop-at.tokens _ c.loop-at.at c.asked_kind-kind.result inside
          (rw (sym c.next_kind.ensures) c.asked_kind-kind.ensures) c.loop-at.invariant.1,
    )
