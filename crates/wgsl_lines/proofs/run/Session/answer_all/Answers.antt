use Rattle.wgsl_lines.proofs.Common.{[], rules, subst, sym, take, err_from_is_err_and, Consumes}
use Rattle.wgsl_lines.proofs.Steps.{HasReached, keeps_all, passed_on, reached_again, reached_end, reached_fail, reached_more, reached_none, reached_stop}
use Rattle.wgsl_lines.proofs.run.Session.answer_all.Goals.{in-Ok+in_ok-answer_block-in-Ok, in-Err}
use Rattle.wgsl_lines.proofs.run.Session.answer_all.Goals as goal

pub loop-init : goal.loop-init
loop-init g c = λ start. reached_none _ _ _ _ start

pub loop-preserved : goal.loop-preserved
loop-preserved g c = λ start.
    let at = c.loop.invariant start in
    elim c.match-read.branch [
      | in-Ok+in_ok-answer_block-in-Ok w ↦
          subst (λ session. HasReached c.args.rules (g.R.Read.remaining c.args.input.now) (g.R.Read.remaining c.read.new.self) (g.W.Write.contents c.args.output.now) (g.W.Write.contents c.match-read.output) session) (sym w.self-is)
          (subst (λ output. HasReached c.args.rules (g.R.Read.remaining c.args.input.now) (g.R.Read.remaining c.read.new.self) (g.W.Write.contents c.args.output.now) (g.W.Write.contents output) w.answer_block.new.self) (sym w.output-is)
          (reached_more _ _ _ _ _ _ at _ _ _ _ w.in-Ok.ensures.bytes.0 (w.in_ok-answer_block-in-Ok.ensures at.bytes _ at.between)))
      | in-Err w ↦
          subst (λ session. HasReached c.args.rules (g.R.Read.remaining c.args.input.now) (g.R.Read.remaining c.read.new.self) (g.W.Write.contents c.args.output.now) (g.W.Write.contents c.match-read.output) session) (sym w.self-is)
          (subst (λ output. HasReached c.args.rules (g.R.Read.remaining c.args.input.now) (g.R.Read.remaining c.read.new.self) (g.W.Write.contents c.args.output.now) (g.W.Write.contents output) c.loop.self) (sym w.output-is)
          (reached_again _ _ _ _ _ _ at _ w.in-Err.ensures.bytes))
    ]

pub returns-in-Ok-eq0 : goal.returns-in-Ok-eq0
returns-in-Ok-eq0 g c = λ start.
    let at = c.loop.invariant start in
    let read = rw c.in-Ok-eq0.is at c.read.ensures.bytes in
    let none = c.in-Ok-eq0.field-0-test in
    let nothing : Consumes (g.R.Read.remaining c.loop.input) (g.R.Read.remaining c.read.new.self) [] =
    subst (λ n. Consumes (g.R.Read.remaining c.loop.input) (g.R.Read.remaining c.read.new.self) (take n c.read.new.buf)) none read.0 in
    reached_end _ _ _ _ _ _ at _ _ c.answer_last.result nothing (read.1 none (search rules)) (c.answer_last.ensures at.bytes _ at.between)

pub returns-in_err-answer_block-in-Ok : goal.returns-in_err-answer_block-in-Ok
returns-in_err-answer_block-in-Ok g c = λ start.
    let at = c.loop.invariant start in
    let p = err_from_is_err_and c.from_residual.result c.from_residual.ensures.1 in
    passed_on _ _ _ _ c.from_residual.result _ p.0 p.1 p.2
    (reached_stop _ _ _ _ _ _ at _ _ _ _ c.in-Ok.ensures.bytes.0 (c.in_err-answer_block-in-Ok.ensures at.bytes _ at.between))

pub returns-in-Err-2 : goal.returns-in-Err-2
returns-in-Err-2 g c = λ start. reached_fail _ _ _ _ _ _ (c.loop.invariant start) _ c.in-Err-2.ensures.bytes

pub returns : goal.returns
returns g c = λ start. reached_fail _ _ _ _ _ _ (c.loop.invariant start) _ (keeps_all _)
