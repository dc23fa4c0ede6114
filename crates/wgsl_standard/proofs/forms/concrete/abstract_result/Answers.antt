use Rattle.std.proofs.Common.{◌∙◌, ap, sym, option_and_then}
use Rattle.wgsl_standard.specs.forms.internal.Results.{abstract_name}
use Rattle.wgsl_standard.proofs.AbstractResults.{recognised}
use Rattle.wgsl_standard.proofs.forms.concrete.abstract_result.Goals as goal

pub returns-in-Some : goal.returns-in-Some
returns-in-Some c = c.abstract_name.ensures ∙ (ap (option_and_then abstract_name) (sym c.in-Some.is) ∙ recognised _ _ c.result_struct.ensures)

pub returns-in-None : goal.returns-in-None
returns-in-None c = ap (option_and_then abstract_name) (sym c.in-None.is) ∙ recognised _ _ c.result_struct.ensures
