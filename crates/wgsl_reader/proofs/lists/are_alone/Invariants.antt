use Rattle.std.proofs.Common.{◌-◌, length}
use Rattle.wgsl_reader.proofs.Alone.{AreAlone}
use Rattle.wgsl_reader.proofs.lists.are_alone.Given as goal

-- the tokens so far stand alone
abbrev pub invariant-loop-at : goal.invariant-loop-at
invariant-loop-at l = AreAlone l.at l.tokens

abbrev pub decreases-loop-at : goal.decreases-loop-at
decreases-loop-at l = length l.tokens - l.at
