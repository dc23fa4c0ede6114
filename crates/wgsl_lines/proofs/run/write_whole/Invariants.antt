use Rattle.wgsl_lines.proofs.Steps.{IsWritten}
use Rattle.wgsl_lines.proofs.run.write_whole.Given as goal

abbrev pub invariant-loop : goal.invariant-loop
invariant-loop g l = IsWritten l.bytes l.rest (g.W.Write.contents l.fn.output) (g.W.Write.contents l.output)
