-- How the rules see a candidate of the code.
use Rattle.wgsl_rules.specs.operators.Answers.{BinaryCandidate}
use Rattle.wgsl_core.specs.View.{view}
use Rattle.wgsl_core.specs.declared.operators.Candidate.{Candidate}

abbrev pub candidate_view : Candidate → BinaryCandidate
candidate_view c = record { lhs = view c.lhs; rhs = view c.rhs; result = view c.result }
