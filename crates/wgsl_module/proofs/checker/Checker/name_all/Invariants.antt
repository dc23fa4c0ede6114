use Rattle.std.proofs.Common.{◌≡◌, map, take}
use Rattle.wgsl_module.specs.Declarations.{written}
use Rattle.wgsl_module.specs.States.{KeepsButNames, state}
use Rattle.wgsl_module.specs.Order.{HaveNames}
use Rattle.wgsl_module.specs.Runs.{as_unread}
use Rattle.wgsl_module.proofs.checker.Checker.name_all.Given as goal

-- nothing changes but names, and those in front of the index have their names and aren't read
abbrev pub invariant-loop-index : goal.invariant-loop-index
invariant-loop-index l = KeepsButNames (state l.fn.self) (state l.self) × HaveNames l.self (take l.index (map written l.self.declarations.items))
    × (l.self.expressions.declared.items ≡ map as_unread (take l.index (map written l.self.declarations.items)))
