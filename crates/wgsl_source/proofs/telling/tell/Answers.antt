use Rattle.std.proofs.Common.{◌≢◌, [], subst, sym}
use Rattle.wgsl_source.specs.internal.Others.{IsToldIn}
use Rattle.wgsl_source.proofs.Kept.{on_ok_then, one_told, told_in}
use Rattle.wgsl_source.proofs.telling.tell.Goals as goal

pub returns-in-Ok : goal.returns-in-Ok
returns-in-Ok c = record { still = λ some. some; told = subst (λ r. IsToldIn r c.args.faults.now.items) (sym c.in-Ok.is) tt }

pub returns-in_ok-push-in-Err-Fault : goal.returns-in_ok-push-in-Err-Fault
returns-in_ok-push-in-Err-Fault c =
    let some = subst (λ fs. fs ≢ []) (sym c.in_ok-push-in-Err-Fault.ensures.items) (one_told c.args.faults.now.items _) in
    record { still = λ old. some; told = told_in c.args.read _ some }

pub returns-in-Err-Elsewhere : goal.returns-in-Err-Elsewhere
returns-in-Err-Elsewhere c =
    on_ok_then c.tell_elsewhere.result _ _ (λ some. record { still = λ old. some; told = told_in c.args.read c.tell_elsewhere.new.faults.items some }) c.tell_elsewhere.ensures
