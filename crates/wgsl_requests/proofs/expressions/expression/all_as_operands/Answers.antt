use Rattle.wgsl_requests.proofs.Common.{◌≡◌, ◌<◌, length, ap, ◌∙◌, arith, rules, common_steps}
use Rattle.wgsl_requests.proofs.Steps.{one_more, same_length}
use Rattle.wgsl_requests.proofs.expressions.expression.all_as_operands.Goals as goal

pub loop-at-preserved : goal.loop-at-preserved
loop-at-preserved c =
    let inside : c.loop-at.at < length c.loop-at.tokens = search rules in
    let same : length c.loop-at.tokens ≡ length c.args.tokens.now = ap length c.loop-at.invariant.1 ∙ same_length c.loop-at.at c.args.tokens.now in (
      grind (arith, common_steps, inside),
      one_more c.loop-at.tokens c.args.tokens.now c.loop-at.at c.as_operand.result _ (omega (arith, inside, same)) c.loop-at.invariant.1 c.as_operand.ensures,
    )
