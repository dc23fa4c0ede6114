use Rattle.std.proofs.Common.{length}
use Rattle.wgsl_report.proofs.extent.+stride_too_close.Given as goal

abbrev pub decreases-stride_too_close : goal.decreases-stride_too_close
decreases-stride_too_close l = length l.elements.now
