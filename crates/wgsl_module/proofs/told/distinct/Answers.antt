use Rattle.std.proofs.Common.{◌∙◌, Contains, map, refl, subst, sym}
use Rattle.std.proofs.lemmas.List.{nil_from_length}
use Rattle.wgsl_module.specs.Told.{broken}
use Rattle.wgsl_module.proofs.Kept.{gone, kept_too, none_left}
use Rattle.wgsl_module.proofs.told.distinct.Goals as goal

pub loop-fault-preserved-in-Continue-branch-2 : goal.loop-fault-preserved-in-Continue-branch-2
loop-fault-preserved-in-Continue-branch-2 c =
    kept_too (map broken c.args.faults.items) _ _ _ _ _ c.in_ok-push.ensures.items c.in-Some.ensures.steps.0 c.loop-fault.invariant

pub loop-fault-preserved : goal.loop-fault-preserved
loop-fault-preserved c =
    let again : Contains (map broken c.loop-fault.kept.items) (broken c.in-Some.fault) =
    subst (λ fs. Contains (map broken fs) (broken c.in-Some.fault)) c.deref.ensures.value (c.if-not-is_told.ensures refl) in
    gone (map broken c.args.faults.items) _ _ _ _ again c.in-Some.ensures.steps.0 c.loop-fault.invariant

pub returns : goal.returns
returns c = none_left (map broken c.args.faults.items) _ _
    (nil_from_length _ (sym c.loop-fault.fault-iterator.rest.ok.0 ∙ c.in-None.ensures.steps.0)) c.loop-fault.invariant
