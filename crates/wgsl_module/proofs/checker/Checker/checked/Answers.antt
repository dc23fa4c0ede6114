use Rattle.std.proofs.Common.{◌∙◌}
use Rattle.wgsl_module.proofs.checker.Checker.checked.Goals as goal

pub returns-clause-parts : goal.returns-clause-parts
returns-clause-parts c =
    let r = c.in_ok-read.ensures.parts in
    (r.0, r.1, r.2, r.3, r.4, c.in_ok-found.ensures.parts ∙ r.5, λ none. r.6 (c.in_ok-found.ensures.faults none))

pub returns-clause-calls : goal.returns-clause-calls
returns-clause-calls c = λ whole none. c.in_ok-read.ensures.calls whole (c.in_ok-found.ensures.faults none)
