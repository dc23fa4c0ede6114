use Rattle.wgsl_requests.proofs.Common.{◌≡◌, map, take, written_view, operand, typed_view}
use Rattle.wgsl_requests.proofs.expressions.reply.operands_of.Given as goal

-- an operand for each value so far
abbrev pub invariant-loop-value : goal.invariant-loop-value
invariant-loop-value l = map written_view l.operands.items ≡ map operand (map typed_view (take l.value-index l.values))
