use Rattle.wgsl_requests.proofs.Listings.{resolution_written}
use Rattle.wgsl_requests.proofs.Shared.{◌∙◌, on_ok_weaker}
use Rattle.wgsl_requests.proofs.write.overloads.write_signature.Goals as goal

pub returns : goal.returns
returns c = on_ok_weaker c.write_result.result (λ e. e ∙ resolution_written _ _ _ _ _ _ _ c.in_ok-write.ensures.bytes c.in_ok-write_types.ensures c.in_ok-push_str.ensures.bytes) c.write_result.ensures
