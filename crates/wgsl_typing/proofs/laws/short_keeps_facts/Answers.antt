use Rattle.wgsl_typing.proofs.Shorts.{kept}
use Rattle.wgsl_typing.proofs.laws.short_keeps_facts.Goals as goal

pub returns : goal.returns
returns c = kept
