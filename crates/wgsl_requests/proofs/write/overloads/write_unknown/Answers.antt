use Rattle.wgsl_requests.proofs.Shared.{◌∙◌, on_ok_weaker}
use Rattle.wgsl_requests.proofs.Listings.{unknown_written}
use Rattle.wgsl_requests.proofs.write.overloads.write_unknown.Goals as goal

pub returns : goal.returns
returns c = on_ok_weaker c.write_suggestion.result (λ e. e ∙ unknown_written _ _ _ _ c.meant.ensures c.in_ok-write.ensures.bytes) c.write_suggestion.ensures
