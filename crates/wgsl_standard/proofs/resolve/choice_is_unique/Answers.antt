use Rattle.wgsl_standard.proofs.OneChoice.{chosen_once}
use Rattle.wgsl_standard.proofs.resolve.choice_is_unique.Goals as goal

pub returns : goal.returns
returns c = chosen_once
