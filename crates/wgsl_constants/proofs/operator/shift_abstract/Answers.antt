use Rattle.std.proofs.Common.{None, ap, inl, inr, of_z, w64}
use Rattle.wgsl_constants.proofs.Shifted.{too_large}
use Rattle.wgsl_constants.proofs.Values.{fitted}
use Rattle.wgsl_constants.proofs.operator.shift_abstract.Goals as goal

pub returns-else-value-eqminus1 : goal.returns-else-value-eqminus1
returns-else-value-eqminus1 c =
    fitted _ None (too_large c.args.value c.args.count (λ e. c.if-value-eq0.false (ap (of_z w64) e)) c.if-count-lt63.false
    (λ e k. elim c.else-value-eqminus1.either [ inl w ↦ w.1 k | inr w ↦ w (ap (of_z w64) e) ]))
