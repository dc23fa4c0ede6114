use Rattle.std.proofs.Common.{◌≡◌, ◌++◌, ◌≤◌, ◌-◌, List, drop, length, map}
use Rattle.wgsl_reader.proofs.Common.{ReadsFrom, ReadsModule, kind_of, Misread, Event}
use Rattle.wgsl_reader.proofs.module.read_module.Given as goal

-- whatever is read of the tokens that are left, the whole is that behind what is read so far
abbrev pub invariant-loop-at : goal.invariant-loop-at
invariant-loop-at l = (l.at ≤ length l.tokens) × (l.tokens ≡ l.fn.tokens)
    × ((more : List Event) (others : List Misread) → ReadsFrom l.leading l.at (map kind_of (drop l.at l.tokens)) more others
    → ReadsModule (map kind_of l.tokens) (l.«module».events.items ++ more) (l.«module».misread.items ++ others))

abbrev pub decreases-loop-at : goal.decreases-loop-at
decreases-loop-at l = length l.tokens - l.at
