use Rattle.std.proofs.lemmas.Int.{wraps}
use Rattle.std.proofs.Common.{rules}
use Rattle.wgsl_constants.proofs.operator.negative.Goals as goal

pub returns-in-Abstract : goal.returns-in-Abstract
returns-in-Abstract c = search (rules, wraps)

pub returns-in-I32 : goal.returns-in-I32
returns-in-I32 c = search (rules, wraps)
