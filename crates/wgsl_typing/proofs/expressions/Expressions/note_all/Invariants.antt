use Rattle.std.proofs.Common.{◌≡◌}
use Rattle.wgsl_typing.specs.Stacks.{stack, with_parts}
use Rattle.wgsl_typing.proofs.expressions.Expressions.note_all.Given as goal

-- the arguments that are noted, and those that are left
abbrev pub invariant-loop-argument : goal.invariant-loop-argument
invariant-loop-argument l = with_parts l.argument-iterator.rest.items (stack l.self) ≡ with_parts l.fn.arguments.items (stack l.fn.self)
