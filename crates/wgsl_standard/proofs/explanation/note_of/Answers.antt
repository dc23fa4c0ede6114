use Rattle.wgsl_standard.proofs.NumberedLines.{first_stands}
use Rattle.wgsl_standard.proofs.explanation.note_of.Goals as goal

pub returns-clause-index : goal.returns-clause-index
returns-clause-index c = first_stands c.args.signature
