use Rattle.wgsl_module.specs.States.{Keeps, state}
use Rattle.wgsl_module.proofs.checker.Checker.check_locations.Given as goal

-- what is read stays as it is
abbrev pub invariant-loop-field : goal.invariant-loop-field
invariant-loop-field l = Keeps (state l.fn.self) (state l.self)
