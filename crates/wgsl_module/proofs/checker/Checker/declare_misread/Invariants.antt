use Rattle.std.proofs.Common.{◌≡◌, ℕ, List, map}
use Rattle.wgsl_module.specs.Declarations.{written}
use Rattle.wgsl_module.specs.States.{State, state}
use Rattle.wgsl_module.specs.Runs.{IsModule}
use Rattle.wgsl_reader.specs.declared.token.Token.{Token}
use Rattle.wgsl_module.proofs.checker.Checker.declare_misread.Given as goal

-- what is read of the declarations is that of those that were there
abbrev pub invariant-loop-misread : goal.invariant-loop-misread
invariant-loop-misread l =
    ((cycles : List ℕ) (tokens : List Token) (s r : State) → IsModule cycles tokens (map written l.self.declarations.items) s r
    → IsModule cycles tokens (map written l.fn.self.declarations.items) s r) × ((state l.self).stack ≡ (state l.fn.self).stack)
    × (l.misread-index ≡ 0 → l.self.declarations.items ≡ l.fn.self.declarations.items)
