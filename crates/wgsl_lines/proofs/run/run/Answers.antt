use Rattle.std.proofs.lemmas.Result.{err_from_is_err_and}
use Rattle.wgsl_lines.proofs.Steps.{cut_known, none_known}
use Rattle.wgsl_lines.proofs.run.run.Goals as goal

pub returns-in_err-session-clause-beginning : goal.returns-in_err-session-clause-beginning
returns-in_err-session-clause-beginning g c =
    let p = err_from_is_err_and c.from_residual.result c.from_residual.ensures.1 in
    rw (p.1, p.2) (none_known _ _ _)

pub returns-clause-beginning : goal.returns-clause-beginning
returns-clause-beginning g c = cut_known _ _ _ _ _ (c.answer_all-readable.ensures c.in_ok-session.ensures)
