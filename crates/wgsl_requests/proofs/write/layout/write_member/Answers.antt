use Rattle.wgsl_requests.proofs.Shared.{◌≡◌, ◌++◌, OnOk, string_bytes, decimal, ap, subst, ◌∙◌, styled_decimal}
use Rattle.wgsl_requests.proofs.Reports.{number_in_column, member_laid}
use Rattle.wgsl_requests.proofs.write.layout.write_member.Goals as goal

pub returns : goal.returns
returns c =
    let p = c.args.placed.now in
    let offset = ap (λ s. styled_decimal s p.offset) c.laid_out.ensures ∙ number_in_column (decimal p.offset) in
    let size = ap (λ s. styled_decimal s p.size) c.laid_out-2.ensures ∙ number_in_column (decimal p.size) in
    let align = ap (λ s. styled_decimal s p.align) c.laid_out-3.ensures ∙ number_in_column (decimal p.align) in
    subst (λ x. OnOk c.write.result (string_bytes c.write.new.self ≡ string_bytes c.args.text.now ++ x)) (member_laid c.args.member.now p _ _ _ offset size align) c.write.ensures.bytes
