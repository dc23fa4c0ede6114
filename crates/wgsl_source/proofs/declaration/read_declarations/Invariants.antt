use Rattle.std.proofs.Common.{length}
use Rattle.wgsl_source.proofs.Sites.{SoFar}
use Rattle.wgsl_source.proofs.declaration.read_declarations.Given as goal

abbrev pub invariant-loop-read : goal.invariant-loop-read
invariant-loop-read l = SoFar l.fn.text l.fn.grammar.events.items l.rest l.found.declarations.items

abbrev pub decreases-loop-read : goal.decreases-loop-read
decreases-loop-read l = length l.rest
