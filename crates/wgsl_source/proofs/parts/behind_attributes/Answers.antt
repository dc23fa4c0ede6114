use Rattle.wgsl_source.specs.Declarations.{no_attribute}
use Rattle.wgsl_source.proofs.Declarations.{behind_one_more}
use Rattle.wgsl_source.proofs.parts.behind_attributes.Goals as goal

pub loop-split-preserved : goal.loop-split-preserved
loop-split-preserved c =
    behind_one_more c.args.events.now c.loop-split.rest.now c.in-Some.split.rest.now c.in-Some.ensures.exact.0 c.in-Some.ensures.exact.2 c.loop-split.invariant

pub returns : goal.returns
returns c = c.loop-split.invariant c.loop-split.rest.now (no_attribute c.in_default.ensures.exact)
