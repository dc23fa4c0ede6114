use Rattle.wgsl_replies.proofs.Common.{false, ◌∙◌, codes, sym, ends_text}
use Rattle.wgsl_replies.proofs.Numbers.{no_long_suffix}
use Rattle.wgsl_replies.proofs.words.number.number.Goals as goal

pub returns-in_default-strip_suffix : goal.returns-in_default-strip_suffix
returns-in_default-strip_suffix c =
    let no_suffix = ends_text false (codes "li") c.args.word.now c.in_default.ensures.cases in
    c.short_number.ensures ∙ sym (no_long_suffix c.args.word.now no_suffix (ends_text false (codes "lu") c.args.word.now c.in_default-strip_suffix.ensures.cases))
