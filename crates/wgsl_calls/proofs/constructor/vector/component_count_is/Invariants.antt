use Rattle.std.proofs.Common.{◌≡◌, ◌+◌, drop, map}
use Rattle.wgsl_calls.proofs.Common.{all_components, view}
use Rattle.wgsl_calls.proofs.constructor.vector.component_count_is.Given as goal

-- the components of all arguments plus the count wanted are the components of the rest plus `n`
abbrev pub invariant-loop-arg : goal.invariant-loop-arg
invariant-loop-arg l = all_components (map view l.args) + l.wanted ≡ all_components (map view (drop l.arg-index l.args)) + l.n
