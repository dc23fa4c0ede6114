use Rattle.wgsl_requests.proofs.Common.{◌≡◌, ◌≤◌, ◌-◌, ◌++◌, drop, length, take, End, asked_behind}
use Rattle.wgsl_requests.proofs.expressions.request_token.as_asked.Given as goal

-- those so far, and those that the tokens that are left become
abbrev pub invariant-loop-at : goal.invariant-loop-at
invariant-loop-at l = (l.at ≤ length l.tokens) × (take l.at l.tokens ++ asked_behind l.text l.before (drop l.at l.tokens) ≡ asked_behind l.text End l.initial.tokens)

abbrev pub decreases-loop-at : goal.decreases-loop-at
decreases-loop-at l = length l.tokens - l.at
