use Rattle.wgsl_replies.proofs.Common.{◌≡◌, ◌-◌, ap, arith, sym, ◌∙◌, take, rules, around, view, wrapped}
use Rattle.wgsl_replies.proofs.Reading.{wrapped-take}
use Rattle.wgsl_replies.proofs.words.read.wrap.Goals as goal

pub loop-left-preserved : goal.loop-left-preserved
loop-left-preserved c =
    let inside : view c.in_ok-inner.inner.value ≡ view c.loop-left.ty = search rules in
    let made = c.around-ty.ensures ∙ ap (around _) inside in (
      omega (arith, c.loop-left.invariant.0),
      c.loop-left.invariant.1 ∙ (wrapped-take _ _ _ _ (omega (arith, c.loop-left-test.true)) c.loop-left.invariant.0 ∙ ap (wrapped (take (c.loop-left.left - 1) c.args.layers.now)) (sym made)),
    )
