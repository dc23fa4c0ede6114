use Rattle.std.proofs.Common.{◌∙◌, sym}
use Rattle.wgsl_standard.proofs.Common.{in_order, is_scalar_or_vector}
use Rattle.wgsl_standard.proofs.Listed.{any_here, any_later}
use Rattle.wgsl_standard.proofs.written.takes_either.Goals as goal

pub returns-then-is_either : goal.returns-then-is_either
returns-then-is_either c = sym (any_here is_scalar_or_vector (in_order c.args.parameters.now) c.loop-index.index _ c.pattern_at.ensures (sym c.is_either.ensures ∙ c.if-is_either.true)) ∙ c.loop-index.invariant

pub loop-index-preserved : goal.loop-index-preserved
loop-index-preserved c = any_later is_scalar_or_vector (in_order c.args.parameters.now) c.loop-index.index _ c.pattern_at.ensures (sym c.is_either.ensures ∙ c.if-is_either.false) ∙ c.loop-index.invariant
