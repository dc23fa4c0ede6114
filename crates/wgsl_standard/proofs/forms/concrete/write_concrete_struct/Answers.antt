use Rattle.std.proofs.Common.{◌∙◌, ap, sym}
use Rattle.wgsl_standard.proofs.CommonForms.{has_written_of_eq, result_name}
use Rattle.wgsl_standard.proofs.ResultTexts.{concrete_text}
use Rattle.wgsl_standard.proofs.forms.concrete.write_concrete_struct.Goals as goal

pub returns-in-Some : goal.returns-in-Some
returns-in-Some g c = λ plain ok.
    has_written_of_eq _ _ _ _ _
    (c.name.ensures ∙ (ap result_name c.in_f32.ensures ∙ concrete_text _ _ c.in-Some.of (sym c.abstract_result.ensures ∙ c.in-Some.is)))
    (c.write_str.ensures.writes plain ok)
