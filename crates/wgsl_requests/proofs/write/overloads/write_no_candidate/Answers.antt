use Rattle.wgsl_requests.proofs.Shared.{codes, string_bytes, on_ok_weaker}
use Rattle.wgsl_requests.proofs.Listings.{refusal_written, pushed}
use Rattle.wgsl_requests.proofs.write.overloads.write_no_candidate.Goals as goal

pub returns : goal.returns
unfolding lib.Utf8.encode
returns c =
    on_ok_weaker c.push.result (λ e. refusal_written _ _ _ _ _ _ _ _ _ c.args.call.now.operands.now c.in_ok-push_str.ensures.bytes c.in_ok-write_callee.ensures c.in_ok-write_template.ensures c.in_ok-push_str-2.ensures.bytes c.in_ok-write_operand_types.ensures e)
    (pushed c.push.result (string_bytes c.push.new.self) (string_bytes c.write_operand_types.new.text) (codes ")") c.push.ensures.bytes)
