use Rattle.wgsl_module.specs.States.{Keeps, state}
use Rattle.wgsl_module.proofs.checker.Checker.check_values.Given as goal

-- what is read stays as it is
abbrev pub invariant-loop-value : goal.invariant-loop-value
invariant-loop-value l = Keeps (state l.fn.self) (state l.self)
