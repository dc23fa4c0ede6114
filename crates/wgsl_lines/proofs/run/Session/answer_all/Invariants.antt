use Rattle.wgsl_lines.specs.Output.{IsAtStart}
use Rattle.wgsl_lines.proofs.Steps.{HasReached}
use Rattle.wgsl_lines.proofs.run.Session.answer_all.Given as goal

abbrev pub invariant-loop : goal.invariant-loop
invariant-loop g l = IsAtStart l.fn.self → HasReached l.rules (g.R.Read.remaining l.fn.input) (g.R.Read.remaining l.input) (g.W.Write.contents l.fn.output) (g.W.Write.contents l.output) l.self
