use Rattle.wgsl_requests.proofs.Shared.{◌≡◌, ◌++◌, OnOk, string_bytes, codes, decimal, ap, subst, ◌∙◌, styled_decimal, styled_text}
use Rattle.wgsl_requests.proofs.Reports.{number_in_column, dash_in_column, in_columns}
use Rattle.wgsl_requests.proofs.write.layout.write_last.Goals as goal

pub returns : goal.returns
returns c =
    let size = ap (λ s. styled_decimal s c.args.layout.now.size) c.laid_out.ensures ∙ number_in_column (decimal c.args.layout.now.size) in
    let dash = ap (λ s. styled_text s (codes "-")) c.laid_out-2.ensures ∙ dash_in_column in
    let align = ap (λ s. styled_decimal s c.args.layout.now.align) c.laid_out-3.ensures ∙ number_in_column (decimal c.args.layout.now.align) in
    subst (λ x. OnOk c.write.result (string_bytes c.write.new.self ≡ string_bytes c.args.text.now ++ x)) (in_columns (decimal c.args.layout.now.size) (codes "-") (decimal c.args.layout.now.align) _ _ _ _ size dash align) c.write.ensures.bytes
