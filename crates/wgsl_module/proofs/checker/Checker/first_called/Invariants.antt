use Rattle.std.proofs.Common.{◌≡◌, drop}
use Rattle.wgsl_module.specs.Called.{called_in}
use Rattle.wgsl_module.specs.Order.{naming_of}
use Rattle.wgsl_module.proofs.checker.Checker.first_called.Given as goal

-- the events so far call nothing
abbrev pub invariant-loop-k : goal.invariant-loop-k
invariant-loop-k l = called_in (naming_of l.self) (drop l.at l.events) ≡ called_in (naming_of l.self) (drop l.k l.events)
