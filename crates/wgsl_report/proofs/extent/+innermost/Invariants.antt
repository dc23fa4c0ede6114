use Rattle.std.proofs.Common.{length}
use Rattle.wgsl_report.proofs.extent.+innermost.Given as goal

abbrev pub decreases-innermost : goal.decreases-innermost
decreases-innermost l = length l.elements.now
