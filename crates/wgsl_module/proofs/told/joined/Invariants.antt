use Rattle.std.proofs.Common.{◌≡◌, ◌++◌}
use Rattle.wgsl_module.proofs.told.joined.Given as goal

-- what is joined so far, and what is left
abbrev pub invariant-loop-fault : goal.invariant-loop-fault
invariant-loop-fault l = l.faults.items ++ l.fault-iterator.rest.items ≡ l.fn.faults.items ++ l.fn.more.items
