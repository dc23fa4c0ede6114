use Rattle.wgsl_standard.proofs.Resolutions.{names_line}
use Rattle.wgsl_standard.proofs.resolved.index_names_line.Goals as goal

pub returns : goal.returns
returns c = names_line
