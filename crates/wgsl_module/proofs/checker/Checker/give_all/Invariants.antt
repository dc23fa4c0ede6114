use Rattle.wgsl_module.specs.Order.{Continues, KeepNames}
use Rattle.wgsl_module.specs.States.{KeepsButNames, state}
use Rattle.wgsl_module.proofs.checker.Checker.give_all.Given as goal

-- nothing changes but names, and those that stand for something stay
abbrev pub invariant-loop-name : goal.invariant-loop-name
invariant-loop-name l = KeepsButNames (state l.fn.self) (state l.self) × KeepNames l.fn.self l.self × Continues l.fn.self l.self
