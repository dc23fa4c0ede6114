use Rattle.std.proofs.Common.{◌∙◌, sym}
use Rattle.wgsl_rules.specs.standard.Overloads.{in_order}
use Rattle.wgsl_standard.proofs.Listed.{resource_here, resource_past}
use Rattle.wgsl_standard.proofs.where_clause.resource_of.Goals as goal

pub returns-in-Some : goal.returns-in-Some
returns-in-Some c = sym (resource_here (in_order c.args.parameters.now) c.loop-index.index _ c.in-Some.resource c.pattern_at.ensures (sym c.resource_in.ensures ∙ c.in-Some.is)) ∙ c.loop-index.invariant

pub loop-index-preserved : goal.loop-index-preserved
loop-index-preserved c = resource_past (in_order c.args.parameters.now) c.loop-index.index _ c.pattern_at.ensures (sym c.resource_in.ensures ∙ c.in-None.is) ∙ c.loop-index.invariant
