use Rattle.wgsl_requests.proofs.Shared.{◌∙◌, codes, on_ok_weaker}
use Rattle.wgsl_requests.proofs.Listings.{template_written, pushed}
use Rattle.wgsl_requests.proofs.write.overloads.write_template.Goals as goal

pub returns-in_ok-write_parameters-in-Some : goal.returns-in_ok-write_parameters-in-Some
returns-in_ok-write_parameters-in-Some c = rw c.in-Some.is (
    on_ok_weaker c.push_str-in-Some.result (λ e. e ∙ template_written _ _ _ c.in-Some.parameters.now c.in_ok-push_str-in-Some.ensures.bytes c.in_ok-write_parameters-in-Some.ensures)
    (pushed c.push_str-in-Some.result _ _ (codes ">") c.push_str-in-Some.ensures.bytes))
