use Rattle.std.proofs.Common.{◌≡◌, drop, map}
use Rattle.wgsl_module.specs.Declarations.{written}
use Rattle.wgsl_module.specs.States.{State, source, state}
use Rattle.wgsl_module.specs.Runs.{AreDeclarations}
use Rattle.wgsl_module.proofs.checker.Checker.declare_in.Given as goal

-- what comes of the declarations that are left comes of all
abbrev pub invariant-loop-index : goal.invariant-loop-index
invariant-loop-index l =
    ((r : State) → AreDeclarations l.tokens (map written l.fn.self.declarations.items) (drop l.index-index l.order) (state l.self) r
    → AreDeclarations l.tokens (map written l.fn.self.declarations.items) l.order (state l.fn.self) r) ×
    (source (state l.self) ≡ source (state l.fn.self))
