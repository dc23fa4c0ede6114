use Rattle.wgsl_lines.proofs.Common.{[], string_bytes, sym, append-nil, err_from_is_err_and}
use Rattle.wgsl_lines.proofs.Steps.{appends_kept}
use Rattle.wgsl_lines.proofs.run.Session.write_answers.Goals as goal

pub returns-in_err-map_err-clause-cut : goal.returns-in_err-map_err-clause-cut
returns-in_err-map_err-clause-cut g c =
    let p = err_from_is_err_and c.from_residual-in_err-map_err.result c.from_residual-in_err-map_err.ensures.1 in
    let written = rw c.as_bytes.ensures.value at c.in_ok-write_whole.ensures.written in
    rw p.1 (string_bytes c.args.self.now.answers, [], sym (append-nil (string_bytes c.args.self.now.answers)), appends_kept _ _ _ _ written c.flush.ensures.bytes)
