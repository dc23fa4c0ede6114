use Rattle.std.proofs.Common.{subst, sym}
use Rattle.wgsl_core.proofs.Common.{RuleSet, IsAlignOfThreeBy, IsExactly, view, IsValue}
use Rattle.wgsl_core.proofs.layout.align_of_three.Goals as goal

pub returns-in-Standard : goal.returns-in-Standard
returns-in-Standard c =
    subst (λ (rules : RuleSet). IsExactly c.times.result (IsAlignOfThreeBy rules (view c.args.ty.now) (IsValue c.args.size))) (sym c.in-Standard.is) c.times.ensures
