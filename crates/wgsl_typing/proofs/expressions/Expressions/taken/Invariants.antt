use Rattle.std.proofs.Common.{◌≡◌}
use Rattle.wgsl_typing.specs.Stacks.{stack}
use Rattle.wgsl_typing.proofs.expressions.Expressions.taken.Given as goal

-- what is read stays as it is
abbrev pub invariant-loop-note : goal.invariant-loop-note
invariant-loop-note l = stack l.self ≡ stack l.fn.self
