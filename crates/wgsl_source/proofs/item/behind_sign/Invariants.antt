use Rattle.std.proofs.Common.{length, drop, ◌≤◌, All}
use Rattle.wgsl_source.specs.WrittenTypes.{IsNoSign}
use Rattle.wgsl_source.proofs.item.behind_sign.Given as goal

abbrev pub invariant-loop-at : goal.invariant-loop-at
invariant-loop-at l = record {
  within : l.at ≤ length l.items;
  last : All (IsNoSign l.sign) (drop l.at l.items);
}

abbrev pub decreases-loop-at : goal.decreases-loop-at
decreases-loop-at l = l.at
