use Rattle.wgsl_rules.proofs.layout.Steps.{next_stride}
use Rattle.wgsl_core.proofs.layout.placing.rounded_up.Goals as goal

pub returns : goal.returns
returns c = next_stride c.in_ok-size.field-0 c.in_ok-align.field-0 c.args.size c.args.align c.checked_next_multiple_of.result c.in_ok-size.was c.in_ok-align.was c.checked_next_multiple_of.ensures
