use Rattle.std.proofs.Common.{◌∙◌, ◌++◌, Global, Vec, ap, sym}
use Rattle.wgsl_typing.specs.declared.fault.Fault.{Fault}
use Rattle.wgsl_module.proofs.Kept.{added_told, none_in_front, nothing_told}
use Rattle.wgsl_module.proofs.checker.Checker.found.Goals as goal

pub returns-clause-told : goal.returns-clause-told
returns-clause-told c = added_told _ _ _ _ c.in_ok-own.ensures c.in_ok-faults.ensures

pub returns-clause-faults : goal.returns-clause-faults
returns-clause-faults c = λ none.
    let told = c.replace-told.result.items in
    let own = c.in_ok-own.own.items in
    ap (λ (v : Vec Fault Global). v.items) (sym c.replace-told.ensures.value) ∙ none_in_front told own (nothing_told (told ++ own) c.in_ok-faults.faults.items c.in_ok-faults.ensures none)
