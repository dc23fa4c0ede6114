use Rattle.std.proofs.Common.{◌≡◌, reverse, vec_len}
use Rattle.wgsl_typing.specs.Stacks.{stack, with_parts}
use Rattle.wgsl_typing.specs.Taken.{expressions_in}
use Rattle.wgsl_typing.proofs.expressions.Expressions.note_left.Given as goal

-- what is used, and what is left
abbrev pub invariant-loop-item : goal.invariant-loop-item
invariant-loop-item l = with_parts (expressions_in (reverse l.list.items)) (stack l.self) ≡ with_parts (expressions_in (reverse l.fn.list.items)) (stack l.fn.self)

abbrev pub decreases-loop-item : goal.decreases-loop-item
decreases-loop-item l = vec_len l.list
