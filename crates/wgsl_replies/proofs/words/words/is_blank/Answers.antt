use Rattle.wgsl_replies.proofs.Common.{◌≡◌, ◌∙◌, ap, arith, length, prefix_len, common_steps, is_separator}
use Rattle.wgsl_replies.proofs.Cuts.{blank-gap, words_of-blank}
use Rattle.wgsl_replies.proofs.words.words.is_blank.Goals as goal

pub returns : goal.returns
returns c =
    let at : c.gap_len.result ≡ prefix_len is_separator c.args.text.now = c.gap_len.ensures ∙ ap (prefix_len is_separator) c.as_bytes.ensures.value in (
      λ e. words_of-blank c.args.text.now c.gap_len.result at (grind (arith, common_steps, e)),
      λ none. let all : c.gap_len.result ≡ length c.args.text.now = at ∙ blank-gap c.args.text.now none in grind (arith, common_steps, all),
    )
