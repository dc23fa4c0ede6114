use Rattle.std.proofs.Common.{◌≡◌, ◌+◌, rules, subst, suc, arith}
use Rattle.wgsl_reader.proofs.Alone.{AreAlone, all_same, one_more}
use Rattle.wgsl_reader.proofs.lists.are_alone.Goals as goal

pub loop-at-preserved : goal.loop-at-preserved
loop-at-preserved c =
    let next : suc c.loop-at.at ≡ c.loop-at.at + 1 = omega arith in
    subst (λ n. AreAlone n c.args.tokens.now) next
    (one_more c.args.tokens.now c.from.result.now c.loop-at.at _ c.loop-at-test.true c.from.ensures.rest
    (c.if-not-is_alone.ensures.joined (search rules), c.if-not-is_alone.ensures.other (search rules)) c.loop-at.invariant)

pub returns : goal.returns
returns c = λ t. all_same c.loop-at.at c.args.tokens.now (search rules) c.loop-at.invariant
