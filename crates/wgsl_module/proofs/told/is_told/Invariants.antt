use Rattle.std.proofs.Common.{Contains, map}
use Rattle.wgsl_module.specs.Told.{Broken, broken}
use Rattle.wgsl_module.proofs.told.is_told.Given as goal

-- what is left is of what is kept
abbrev pub invariant-loop-told : goal.invariant-loop-told
invariant-loop-told l =
    (goal.iterator-loop-told).can_next l.told-iterator ×
    (goal.iterator-loop-told).is_finite l.told-iterator ×
    ((b : Broken) → Contains (map broken l.told-iterator.iter.rest.now) b → Contains (map broken l.fn.kept) b)
