use Rattle.wgsl_requests.proofs.Common.{◌≡◌, map, member_view, view}
use Rattle.wgsl_requests.proofs.expressions.heading.types_of.Given as goal

-- the type of each member so far
abbrev pub invariant-loop-member : goal.invariant-loop-member
invariant-loop-member l = map view l.types.items ≡ map (λ m. m.ty) (map member_view l.yielded)
