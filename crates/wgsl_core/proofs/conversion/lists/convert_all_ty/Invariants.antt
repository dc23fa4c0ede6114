use Rattle.std.proofs.Common.{Some, map}
use Rattle.wgsl_core.proofs.Common.{IsFoldedFrom, view}
use Rattle.wgsl_core.proofs.conversion.lists.convert_all_ty.Given as goal

abbrev pub invariant-loop-t : goal.invariant-loop-t
invariant-loop-t g l =
    (goal.iterator-loop-t g).can_next l.t-iterator ×
    (goal.iterator-loop-t g).is_finite l.t-iterator ×
    IsFoldedFrom (Some (view l.initial.common)) (map (λ t. view t.now) l.yielded) (Some (view l.common))
