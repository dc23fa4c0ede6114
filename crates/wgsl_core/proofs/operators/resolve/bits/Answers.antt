use Rattle.std.proofs.Common.{sym, ◌∙◌, inl, inr}
use Rattle.wgsl_rules.proofs.operators.Rows.{bits_apart, no_bits}
use Rattle.wgsl_core.proofs.Resolution.{bits_found, same_candidate}
use Rattle.wgsl_core.proofs.operators.resolve.bits.Goals as goal

pub returns-in_err-common : goal.returns-in_err-common
returns-in_err-common c h = rw c.from_residual.ensures (bits_apart c.in_err-common.ensures.common h)

pub returns-then-has_bits : goal.returns-then-has_bits
returns-then-has_bits c = bits_found c.in_ok-common.ensures.common (c.has_bits.ensures.0 c.if-has_bits.true) (same_candidate c.of.ensures c.of-then-has_bits.ensures c.of-then-has_bits-2.ensures)

pub returns-else-has_bits : goal.returns-else-has_bits
returns-else-has_bits c =
    no_bits c.in_ok-common.ensures.common (λ i. cc (sym (c.has_bits.ensures.1 (inl i)) ∙ c.if-has_bits.false))
    (λ v. cc (sym (c.has_bits.ensures.1 (inr (v.0, (v.1, v.2)))) ∙ c.if-has_bits.false))
