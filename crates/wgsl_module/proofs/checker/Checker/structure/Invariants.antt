use Rattle.wgsl_module.specs.States.{Keeps, state}
use Rattle.wgsl_module.proofs.checker.Checker.structure.Given as goal

-- what is read stays as it is
abbrev pub invariant-loop-index : goal.invariant-loop-index
invariant-loop-index l = Keeps (state l.fn.self) (state l.self)
