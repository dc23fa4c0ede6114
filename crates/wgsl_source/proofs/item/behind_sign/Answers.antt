use Rattle.std.proofs.Common.{◌≡◌, drop, All, arith, subst}
use Rattle.wgsl_source.specs.WrittenTypes.{IsNoSign}
use Rattle.wgsl_source.proofs.item.behind_sign.Goals as goal

pub returns-then-is_sign-clause-last : goal.returns-then-is_sign-clause-last
returns-then-is_sign-clause-last c = c.loop-at.invariant.last

pub returns-clause-last : goal.returns-clause-last
returns-clause-last c =
    let none : c.loop-at.at ≡ 0 = omega (arith, c.loop-at-test.false) in
    subst (λ n. All (IsNoSign c.args.sign) (drop n c.args.items.now)) none c.loop-at.invariant.last
