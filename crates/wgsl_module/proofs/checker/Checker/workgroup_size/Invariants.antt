use Rattle.wgsl_module.specs.States.{Keeps, state}
use Rattle.wgsl_module.proofs.checker.Checker.workgroup_size.Given as goal

-- what is read stays as it is
abbrev pub invariant-loop-part-2 : goal.invariant-loop-part-2
invariant-loop-part-2 l = Keeps (state l.fn.self) (state l.self)
