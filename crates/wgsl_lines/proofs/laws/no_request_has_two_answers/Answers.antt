use Rattle.wgsl_requests.proofs.OneAnswer.{answer_once}
use Rattle.wgsl_lines.proofs.laws.no_request_has_two_answers.Goals as goal

pub returns : goal.returns
returns c = answer_once
