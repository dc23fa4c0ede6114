use Rattle.std.proofs.Common.{◌≡◌, ◌∷◌, [], ◌++◌, ◌≤◌, ◌-◌, drop, map, length}
use Rattle.wgsl_reader.proofs.Common.{Outcome, ReadAt, kind_of, next_kind, with_events, below}
use Rattle.wgsl_reader.specs.declared.grammar.Symbol.TheVariants.{Rule as rule}
use Rattle.wgsl_reader.proofs.Weights.{left}
use Rattle.wgsl_reader.proofs.read.read.Given as goal

-- whatever is read of the tokens that are left, the whole is that behind what is noted so far

abbrev pub invariant-loop-frames : goal.invariant-loop-frames
invariant-loop-frames l = (l.at ≤ length l.tokens) × (l.tokens ≡ l.fn.tokens)
    × ((r : Outcome) → ReadAt (l.symbols ++ below l.frames.items []) l.at (map kind_of (drop l.at l.tokens)) r
    → ReadAt (rule l.fn.start ∷ []) l.fn.from (map kind_of (drop l.fn.from l.tokens)) (with_events l.events.items r))

abbrev pub decreases-loop-frames : goal.decreases-loop-frames
decreases-loop-frames l = length l.tokens - l.at

abbrev pub invariant-loop-frames-2 : goal.invariant-loop-frames-2
invariant-loop-frames-2 l = (l.at ≤ length l.tokens) × (l.tokens ≡ l.fn.tokens) × (l.next ≡ next_kind (map kind_of (drop l.at l.tokens)))
    × ((r : Outcome) → ReadAt (l.symbols ++ below l.frames.items []) l.at (map kind_of (drop l.at l.tokens)) r
    → ReadAt (rule l.fn.start ∷ []) l.fn.from (map kind_of (drop l.fn.from l.tokens)) (with_events l.events.items r))

abbrev pub decreases-loop-frames-2 : goal.decreases-loop-frames-2
decreases-loop-frames-2 l = left l.symbols l.frames.items
