use Rattle.std.proofs.Common.{All, drop, map}
use Rattle.wgsl_calls.proofs.Common.{BringsComponents, view}
use Rattle.wgsl_calls.proofs.constructor.vector.all_bring_components.Given as goal

abbrev pub invariant-loop-arg : goal.invariant-loop-arg
invariant-loop-arg l =
    All (BringsComponents (view l.ty)) (map view (drop l.arg-index l.args)) → All (BringsComponents (view l.ty)) (map view l.args)
