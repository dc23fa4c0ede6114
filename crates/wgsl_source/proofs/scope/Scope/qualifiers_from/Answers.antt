use Rattle.wgsl_source.proofs.Items.{space_said}
use Rattle.wgsl_source.specs.WrittenTypes.{meaning_of}
use Rattle.wgsl_source.proofs.scope.Scope.qualifiers_from.Goals as goal

pub returns-clause-said : goal.returns-clause-said
returns-clause-said c =
    space_said c.args.self.now.text (meaning_of c.args.self.now) c.args.first c.args.rest.now c.in_ok-space.space c.in_ok-access.access c.in_ok-space.ensures.named c.in_ok-access.ensures.said
