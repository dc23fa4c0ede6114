use Rattle.wgsl_core.proofs.Ranks.{elements_convert, elements_convert_in, elements_fewer}
use Rattle.wgsl_core.proofs.conversion.without_equal_layers.Goals as goal

pub loop-element-init : goal.loop-element-init
loop-element-init c = record { rank = λ w. (λ h. h, λ h. h); steps = λ w n. (λ h. h, λ h. h) }

pub loop-element-preserved : goal.loop-element-preserved
loop-element-preserved c =
    let i = c.loop-element.invariant in
    let inside = c.in-Some.ensures.some in
    record {
      rank = λ w. let k = elements_convert _ _ _ _ w inside in (λ h. k.0 ((i.rank w).0 h), λ h. (i.rank w).1 (k.1 h));
      steps = λ w n. let k = elements_convert_in _ _ _ _ w n inside in (λ h. k.0 ((i.steps w n).0 h), λ h. (i.steps w n).1 (k.1 h));
    }

pub loop-element-smaller : goal.loop-element-smaller
loop-element-smaller c = elements_fewer _ _ _ _ c.in-Some.ensures.some
