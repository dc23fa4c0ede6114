use Rattle.std.proofs.Common.{◌≡◌}
use Rattle.wgsl_typing.specs.Stacks.{stack}
use Rattle.wgsl_typing.proofs.expressions.Expressions.are_elements.Given as goal

-- what is read stays as it is
abbrev pub invariant-loop-value : goal.invariant-loop-value
invariant-loop-value l = stack l.self ≡ stack l.fn.self
