use Rattle.wgsl_requests.proofs.OneOutcome.{one_standard_reply}
use Rattle.wgsl_requests.proofs.expressions.laws.one_reply.Goals as goal

pub returns : goal.returns
returns c = λ line. (one_standard_reply line).once
