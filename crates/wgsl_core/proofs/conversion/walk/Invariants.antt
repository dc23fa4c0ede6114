use Rattle.std.proofs.Common.{ℕ}
use Rattle.wgsl_core.proofs.Common.{rank_from_root, Ancestor, node_view}
use Rattle.wgsl_core.proofs.conversion.walk.Given as goal

-- the node met is `steps` parents above the target; if the source is above the target, it is above the node met
abbrev pub invariant-loop-met : goal.invariant-loop-met
invariant-loop-met l = record {
  climbed : Ancestor (node_view l.met) (node_view l.target) l.steps;
  kept : (n : ℕ) → Ancestor (node_view l.source) (node_view l.target) n → (m : ℕ) × Ancestor (node_view l.source) (node_view l.met) m;
}

abbrev pub decreases-loop-met : goal.decreases-loop-met
decreases-loop-met l = rank_from_root (node_view l.met)
