use Rattle.wgsl_lines.proofs.Common.{◌∙◌, string_bytes, subst, sym, err_from_is_err_and, HasStopped}
use Rattle.wgsl_lines.proofs.Steps.{IsCutOff, cut_off, last_cut, last_done, last_stops}
use Rattle.wgsl_lines.proofs.run.Session.answer_last.Goals as goal

pub returns : goal.returns
returns g c = λ bytes start at.
    let done = c.in_ok-write_answers.ensures in
    last_done _ bytes start _ _ _ _ at _ c.in_ok-ended.ensures.answered done.written done.all_readable

pub returns-in_err-write_answers : goal.returns-in_err-write_answers
returns-in_err-write_answers g c = λ bytes start at.
    let p = err_from_is_err_and c.from_residual.result c.from_residual.ensures.1 in
    let failed = c.in_err-write_answers.ensures in
    let off : IsCutOff (string_bytes c.end_line-ended.new.self.answers) (g.W.Write.contents c.args.output.now) (g.W.Write.contents c.write_answers.new.output) =
    cut_off failed.cut (λ none. absurd (cc (failed.nothing none))) in
    rw p.1 (subst (HasStopped _ _ _ _) (sym (p.2 ∙ failed.err)) (last_cut _ bytes start _ _ _ _ at c.end_line-ended.result c.end_line-ended.ensures.answered c.end_line-ended.ensures.err off))

pub returns-in_err-ended : goal.returns-in_err-ended
returns-in_err-ended g c = λ bytes start at.
    let p = err_from_is_err_and c.from_residual-in_err-ended.result c.from_residual-in_err-ended.ensures.1 in
    rw p.1 (subst (HasStopped _ _ _ _) (sym p.2) (last_stops _ bytes start _ _ _ c.end_line-ended.new.self at c.in_err-ended.ensures.err c.in_ok-write_answers.ensures.written))
