use Rattle.wgsl_requests.proofs.OneOutcome.{one_outcome}
use Rattle.wgsl_requests.proofs.expressions.laws.one_outcome.Goals as goal

pub returns : goal.returns
returns c = λ scope text. (one_outcome scope text).once
