use Rattle.wgsl_requests.proofs.Common.{◌≡◌, map, take, view}
use Rattle.wgsl_requests.proofs.expressions.name.declared_head.Given as goal

-- a copy of each type so far
abbrev pub invariant-loop-ty : goal.invariant-loop-ty
invariant-loop-ty l = map view l.types.items ≡ map view (take l.ty-index l.parameters)
