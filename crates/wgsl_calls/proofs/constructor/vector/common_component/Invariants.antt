use Rattle.std.proofs.Common.{Option, Some, map}
use Rattle.wgsl_calls.proofs.Common.{WgslType, inner_of, IsLeftCommon, IsFoldedFrom, view}
use Rattle.wgsl_calls.proofs.Arguments.{inside_from}
use Rattle.wgsl_calls.proofs.constructor.vector.common_component.Given as goal

abbrev pub invariant-loop-arg : goal.invariant-loop-arg
invariant-loop-arg l =
    (r : Option WgslType) → IsFoldedFrom (Some (view l.common)) (inside_from l.rest l.arg-index) r → IsLeftCommon (map inner_of (map view l.args)) r
