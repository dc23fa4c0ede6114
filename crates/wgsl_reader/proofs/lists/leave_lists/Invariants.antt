use Rattle.std.proofs.Common.{◌≡◌, reverse}
use Rattle.wgsl_reader.specs.Lists.{inside}
use Rattle.wgsl_reader.proofs.lists.leave_lists.Given as goal

abbrev pub invariant-loop-opened : goal.invariant-loop-opened
invariant-loop-opened l = inside (reverse l.opened.items) ≡ inside (reverse l.initial.opened.items)

abbrev pub decreases-loop-opened : goal.decreases-loop-opened
decreases-loop-opened l = goal.left-loop-opened l
