use Rattle.std.proofs.Common.{sym, ◌∙◌}
use Rattle.wgsl_core.proofs.Resolution.{shifted_scalars, scalars_not_shifted, shifted_vectors, vectors_not_shifted, vector_by_other}
use Rattle.wgsl_core.proofs.operators.resolve.shift.Goals as goal
use Rattle.wgsl_core.proofs.operators.resolve.shift.Goals.{else-n-m-via-then-n-m+else-can_shift-2, else-n-m-via-else-n-m}

pub returns-then-can_shift : goal.returns-then-can_shift
returns-then-can_shift c = shifted_scalars c.shifted.ensures c.in-Scalar.ensures (c.can_shift.ensures.0 c.if-can_shift.true)

pub returns-else-can_shift : goal.returns-else-can_shift
returns-else-can_shift c = scalars_not_shifted c.in-Scalar.ensures (λ h. cc (sym (c.can_shift.ensures.1 h) ∙ c.if-can_shift.false))

pub returns-then-can_shift-2 : goal.returns-then-can_shift-2
returns-then-can_shift-2 c =
    shifted_vectors c.shifted-then-can_shift-2.ensures c.in-Vector.ensures c.in-Vector-form.ensures c.if-n-m.true
    (c.can_shift-then-n-m.ensures.0 c.if-can_shift-2.true)

pub returns-else-n-m : goal.returns-else-n-m
returns-else-n-m c =
    vectors_not_shifted c.in-Vector.ensures c.in-Vector-form.ensures
    (λ h. elim c.else-n-m.branch [
      | else-n-m-via-then-n-m+else-can_shift-2 w ↦ cc (sym (w.can_shift-then-n-m.ensures.1 (h.1, h.2)) ∙ w.if-can_shift-2.false)
      | else-n-m-via-else-n-m w ↦ w.if-n-m.false h.0
    ])

pub returns-in_default-form : goal.returns-in_default-form
returns-in_default-form c = vector_by_other c.in-Vector.ensures c.form-in-Vector.ensures c.in_default-form.not-Vector
