use Rattle.std.proofs.Common.{[], length, ◌-◌}
use Rattle.wgsl_source.specs.internal.Read.{Adds}
use Rattle.wgsl_source.proofs.declaration.Declarations.read_misread.Given as goal

abbrev pub invariant-loop-misread : goal.invariant-loop-misread
invariant-loop-misread l = Adds l.fn.text [] l.fn.self.declarations.items l.self.declarations.items

abbrev pub decreases-loop-misread : goal.decreases-loop-misread
decreases-loop-misread l = length l.grammar.misread.items - l.index
