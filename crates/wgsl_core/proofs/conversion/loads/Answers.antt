use Rattle.wgsl_core.proofs.Ranks.{load_reference, no_reference_loads}
use Rattle.wgsl_core.proofs.conversion.loads.Goals as goal

pub returns-then-is_read : goal.returns-then-is_read
returns-then-is_read c = load_reference _ _ _ _ _ _ c.in-Reference.ensures (c.is_read.ensures.0 c.if-is_read.true) c.eq.ensures.same

pub returns-in_default : goal.returns-in_default
returns-in_default c = (λ h. absurd (cc h), λ l. absurd (no_reference_loads _ _ c.requires c.form.ensures c.in_default.not-Reference l))
