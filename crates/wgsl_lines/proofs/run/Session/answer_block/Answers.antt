use Rattle.wgsl_lines.proofs.Common.{◌∙◌, string_bytes, subst, sym, err_from_is_err_and, HasStopped}
use Rattle.wgsl_lines.proofs.Steps.{IsCutOff, block_cut, block_done, block_stops, cut_off}
use Rattle.wgsl_lines.proofs.run.Session.answer_block.Goals as goal

pub returns : goal.returns
returns g c = λ bytes start at.
    let done = c.in_ok-write_answers.ensures in
    block_done _ bytes start _ _ _ _ at c.args.block.now _ (c.in_ok-taken.ensures.taken bytes at.text at.taken) done.written done.empty done.line done.all_readable

pub returns-in_err-write_answers : goal.returns-in_err-write_answers
returns-in_err-write_answers g c = λ bytes start at.
    let p = err_from_is_err_and c.from_residual.result c.from_residual.ensures.1 in
    let failed = c.in_err-write_answers.ensures in
    let off : IsCutOff (string_bytes c.take-taken.new.self.answers) (g.W.Write.contents c.args.output.now) (g.W.Write.contents c.write_answers.new.output) =
    cut_off failed.cut (λ none. absurd (cc (failed.nothing none))) in
    rw p.1 (λ more. subst (HasStopped _ _ _ _) (sym (p.2 ∙ failed.err)) (block_cut _ bytes start _ _ _ c.take-taken.new.self at c.args.block.now (c.take-taken.ensures.so_far bytes at.text at.taken) off more))

pub returns-in_err-taken : goal.returns-in_err-taken
returns-in_err-taken g c = λ bytes start at.
    let p = err_from_is_err_and c.from_residual-in_err-taken.result c.from_residual-in_err-taken.ensures.1 in
    rw p.1 (λ more. subst (HasStopped _ _ _ _) (sym p.2) (block_stops _ bytes start _ _ _ c.take-taken.new.self at c.args.block.now (c.take-taken.ensures.so_far bytes at.text at.taken) c.in_ok-write_answers.ensures.written more))
