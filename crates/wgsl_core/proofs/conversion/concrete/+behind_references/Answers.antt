use Rattle.wgsl_rules.proofs.conversion.Loading.{loaded_stays}
use Rattle.wgsl_core.proofs.Views.{not_reference}
use Rattle.wgsl_core.proofs.conversion.concrete.+behind_references.Goals as goal

pub returns-in_default : goal.returns-in_default
returns-in_default t c = loaded_stays _ (not_reference _ c.in_default.not-Ref)
