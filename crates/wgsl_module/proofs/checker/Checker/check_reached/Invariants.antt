use Rattle.wgsl_module.specs.States.{Keeps, state}
use Rattle.wgsl_module.proofs.checker.Checker.check_reached.Given as goal

-- what is read stays as it is
abbrev pub invariant-loop-place : goal.invariant-loop-place
invariant-loop-place l = Keeps (state l.fn.self) (state l.self)
