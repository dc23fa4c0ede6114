use Rattle.wgsl_lines.proofs.Common.{◌≡◌, arith, drop, rules, subst, sym, ap, common_steps}
use Rattle.wgsl_lines.proofs.Steps.{IsWritten, appends_kept, written_more}
use Rattle.wgsl_lines.proofs.run.write_whole.Goals.{in-Ok, in-Err}
use Rattle.wgsl_lines.proofs.run.write_whole.Goals as goal

pub loop-preserved : goal.loop-preserved
loop-preserved g c = elim c.match-write.branch [
  | in-Ok w ↦
      let at : c.match-write.rest.now ≡ drop w.in-Ok.count c.loop.rest.now = rw w.rest-is (first_of (grind (arith, common_steps), search rules)) in
      subst (λ rest. IsWritten c.args.bytes.now rest (g.W.Write.contents c.args.output.now) (g.W.Write.contents c.write.new.self)) (sym at)
      (written_more c.args.bytes.now c.loop.rest.now _ _ _ w.in-Ok.count c.loop.invariant w.in-Ok.ensures.bytes)
  | in-Err w ↦
      subst (λ rest. IsWritten c.args.bytes.now rest (g.W.Write.contents c.args.output.now) (g.W.Write.contents c.write.new.self)) (ap (λ r. r.now) (sym w.rest-is))
      (record {
        text = c.loop.invariant.text;
        bytes_are = c.loop.invariant.bytes_are;
        written = appends_kept _ _ _ _ c.loop.invariant.written w.in-Err.ensures.bytes;
      })
]
