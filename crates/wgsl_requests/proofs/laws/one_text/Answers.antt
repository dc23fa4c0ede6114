use Rattle.wgsl_requests.proofs.OneAnswer.{one_text}
use Rattle.wgsl_requests.proofs.laws.one_text.Goals as goal

pub returns : goal.returns
returns c = one_text
