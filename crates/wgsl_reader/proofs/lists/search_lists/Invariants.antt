use Rattle.std.proofs.Common.{◌≡◌, ◌-◌, drop, length}
use Rattle.wgsl_reader.proofs.Common.{found_from, with_lists, search_of}
use Rattle.wgsl_reader.proofs.lists.search_lists.Given as goal

-- what is found so far, and what is found in the tokens that are left
abbrev pub invariant-loop-at : goal.invariant-loop-at
invariant-loop-at l = (l.tokens ≡ l.fn.tokens) × (with_lists l.tokens ≡ found_from 0 (search_of l.search) (drop l.at l.tokens))

abbrev pub decreases-loop-at : goal.decreases-loop-at
decreases-loop-at l = length l.tokens - l.at
