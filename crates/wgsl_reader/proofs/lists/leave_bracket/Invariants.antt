use Rattle.std.proofs.Common.{◌≡◌, reverse}
use Rattle.wgsl_reader.specs.Lists.{outside}
use Rattle.wgsl_reader.proofs.lists.leave_bracket.Given as goal

abbrev pub invariant-loop-last : goal.invariant-loop-last
invariant-loop-last l = outside (reverse l.opened.items) ≡ outside (reverse l.initial.opened.items)

abbrev pub decreases-loop-last : goal.decreases-loop-last
decreases-loop-last l = goal.left-loop-last l
