use Rattle.wgsl_rules.proofs.layout.Steps.{next_stride}
use Rattle.wgsl_source.proofs.measured.MeasuredType.stride.Goals as goal

pub returns : goal.returns
returns c = next_stride c.in_ok-self.field-0 c.in_ok-self-2.field-0 c.args.self.now.size c.args.self.now.align c.checked_next_multiple_of.result c.in_ok-self.was c.in_ok-self-2.was c.checked_next_multiple_of.ensures
