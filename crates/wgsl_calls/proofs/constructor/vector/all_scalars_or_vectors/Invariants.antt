use Rattle.std.proofs.Common.{All, drop, map}
use Rattle.wgsl_calls.proofs.Common.{IsScalarOrVector, view}
use Rattle.wgsl_calls.proofs.constructor.vector.all_scalars_or_vectors.Given as goal

abbrev pub invariant-loop-arg : goal.invariant-loop-arg
invariant-loop-arg l = All IsScalarOrVector (map view (drop l.arg-index l.args)) → All IsScalarOrVector (map view l.args)
