use Rattle.std.proofs.Common.{◌≡◌, []}
use Rattle.wgsl_module.specs.States.{Keeps, state}
use Rattle.wgsl_module.proofs.checker.Checker.tell_calls.Given as goal

-- what is read stays as it is, and where nothing is told there was no cycle so far
abbrev pub invariant-loop-callee : goal.invariant-loop-callee
invariant-loop-callee l = Keeps (state l.fn.self) (state l.self) × (l.self.expressions.faults.items ≡ [] → l.callee-index ≡ 0)
