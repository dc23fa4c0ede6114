use Rattle.std.proofs.Common.{◌≡◌, drop}
use Rattle.wgsl_spelling.proofs.Common.{view, wrapped}
use Rattle.wgsl_spelling.proofs.chain.Chain.wrap.Given as goal

-- the layers below the last that are left, around the type so far, are all of those around the innermost
abbrev pub invariant-loop-layer : goal.invariant-loop-layer
invariant-loop-layer l = wrapped (view l.fn.innermost) (l.fn.self).layers.below.items ≡ wrapped (view l.ty) (drop l.layer-index (l.fn.self).layers.below.items)
