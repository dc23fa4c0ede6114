use Rattle.std.proofs.Common.{◌≡◌, drop, map}
use Rattle.wgsl_module.specs.Declarations.{written}
use Rattle.wgsl_module.specs.States.{State, source, state}
use Rattle.wgsl_module.specs.Runs.{AreBodies}
use Rattle.wgsl_module.proofs.checker.Checker.read_bodies.Given as goal

-- what comes of the bodies that are left comes of all
abbrev pub invariant-loop-index : goal.invariant-loop-index
invariant-loop-index l =
    ((r : State) → AreBodies l.tokens (drop l.index (map written l.fn.self.declarations.items)) (state l.self) r
    → AreBodies l.tokens (map written l.fn.self.declarations.items) (state l.fn.self) r) ×
    (source (state l.self) ≡ source (state l.fn.self))
