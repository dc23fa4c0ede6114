use Rattle.wgsl_module.specs.States.{Keeps, state}
use Rattle.wgsl_module.proofs.checker.Checker.carry.Given as goal

-- what is read stays as it is
abbrev pub invariant-loop-member : goal.invariant-loop-member
invariant-loop-member l = Keeps (state l.fn.self) (state l.self)
