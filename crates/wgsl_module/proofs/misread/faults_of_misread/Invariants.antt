use Rattle.std.proofs.Common.{◌≡◌, ◌++◌, drop, map}
use Rattle.wgsl_module.specs.Told.{broken, unread}
use Rattle.wgsl_module.proofs.misread.faults_of_misread.Given as goal

-- what is told, and what is left
abbrev pub invariant-loop-misread : goal.invariant-loop-misread
invariant-loop-misread l = map broken l.faults.items ++ map unread (drop l.misread-index l.all) ≡ map unread l.all
