use Rattle.wgsl_requests.proofs.Common.{◌≡◌, map, take, written_view, operand_by, head_view, typed_view}
use Rattle.wgsl_requests.proofs.expressions.ask.operands_by.Given as goal

-- an operand for each part so far
abbrev pub invariant-loop-part : goal.invariant-loop-part
invariant-loop-part l = map written_view l.operands.items ≡ map (operand_by (head_view l.head)) (map typed_view (take l.part-index l.parts))
