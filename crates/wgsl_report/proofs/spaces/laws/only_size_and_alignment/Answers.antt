use Rattle.wgsl_report.proofs.Opaque.{opaque}
use Rattle.wgsl_report.proofs.spaces.laws.only_size_and_alignment.Goals as goal

pub returns : goal.returns
returns c = opaque
