use Rattle.std.proofs.Common.{◌≡◌, ◌≤◌, ◌-◌, length}
use Rattle.wgsl_requests.proofs.Steps.{so_far}
use Rattle.wgsl_requests.proofs.expressions.expression.all_as_operands.Given as goal

abbrev pub invariant-loop-at : goal.invariant-loop-at
invariant-loop-at l = (l.at ≤ length l.tokens) × (l.tokens ≡ so_far l.at l.initial.tokens)

abbrev pub decreases-loop-at : goal.decreases-loop-at
decreases-loop-at l = length l.tokens - l.at
