use Rattle.std.proofs.Common.{◌++◌, map}
use Rattle.wgsl_module.specs.Told.{AreTold, broken}
use Rattle.wgsl_module.proofs.told.distinct.Given as goal

-- what was told is told by what is kept, or by what is left
abbrev pub invariant-loop-fault : goal.invariant-loop-fault
invariant-loop-fault l = AreTold (map broken l.fn.faults.items) (l.kept.items ++ l.fault-iterator.rest.items)
