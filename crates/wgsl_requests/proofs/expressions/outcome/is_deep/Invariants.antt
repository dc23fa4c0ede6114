use Rattle.wgsl_requests.proofs.Common.{◌≡◌, view, is_deeper, most_layers}
use Rattle.wgsl_requests.proofs.expressions.outcome.is_deep.Given as goal

-- the type is too deep if the type inside has more layers than are left
abbrev pub invariant-loop-inside : goal.invariant-loop-inside
invariant-loop-inside l = is_deeper l.left (view l.inside) ≡ is_deeper most_layers (view l.fn.ty)

abbrev pub decreases-loop-inside : goal.decreases-loop-inside
decreases-loop-inside l = l.left
