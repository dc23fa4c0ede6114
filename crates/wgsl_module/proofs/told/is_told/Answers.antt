use Rattle.std.proofs.Common.{Contains, map, subst}
use Rattle.wgsl_module.specs.Told.{broken}
use Rattle.wgsl_module.proofs.Kept.{before_told, last_told}
use Rattle.wgsl_module.proofs.told.is_told.Goals as goal

pub returns-then-is_again : goal.returns-then-is_again
returns-then-is_again c = λ is. subst (Contains (map broken c.args.kept.now)) (c.if-is_again.ensures is)
    (c.loop-told.invariant.2 (broken c.in-Some.told.now) (last_told _ _ _ c.in-Some.ensures.steps))

pub loop-told-preserved : goal.loop-told-preserved
loop-told-preserved c = (tt, tt, λ b h. c.loop-told.invariant.2 b (before_told _ _ _ c.in-Some.ensures.steps b h))
