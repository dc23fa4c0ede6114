use Rattle.wgsl_report.proofs.spaces.layout.is_aligned.Goals as goal

pub returns : goal.returns
returns c = rw c.required_align.ensures at c.divides.ensures
