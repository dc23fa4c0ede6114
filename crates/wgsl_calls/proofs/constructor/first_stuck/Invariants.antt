use Rattle.std.proofs.Common.{Option, drop, map}
use Rattle.wgsl_calls.proofs.Common.{WgslType, view, IsStuckAt}
use Rattle.wgsl_calls.proofs.constructor.first_stuck.Given as goal

abbrev pub invariant-loop-arg : goal.invariant-loop-arg
invariant-loop-arg l =
    (r : Option WgslType) → IsStuckAt (view l.ty) (map view (drop l.arg-index l.args)) r → IsStuckAt (view l.ty) (map view l.args) r
