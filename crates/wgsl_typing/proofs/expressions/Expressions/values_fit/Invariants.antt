use Rattle.std.proofs.Common.{◌≡◌}
use Rattle.wgsl_typing.specs.Stacks.{stack}
use Rattle.wgsl_typing.proofs.expressions.Expressions.values_fit.Given as goal

-- what is read stays as it is
abbrev pub invariant-loop-argument : goal.invariant-loop-argument
invariant-loop-argument l = stack l.self ≡ stack l.fn.self
