use Rattle.wgsl_requests.proofs.Shared.{◌∙◌, codes, on_ok_weaker}
use Rattle.wgsl_requests.proofs.Listings.{call_written, pushed}
use Rattle.wgsl_requests.proofs.write.write_refused.Goals as goal

pub returns : goal.returns
returns c =
    on_ok_weaker c.push_str-4.result (λ e. e ∙ call_written _ _ _ _ _ _ _ _ c.args.call.args.now c.in_ok-push_str.ensures.bytes c.in_ok-push_str-2.ensures.bytes c.in_ok-write_template.ensures c.in_ok-push_str-3.ensures.bytes c.in_ok-write_types.ensures)
    (pushed c.push_str-4.result _ _ (codes ")`") c.push_str-4.ensures.bytes)
