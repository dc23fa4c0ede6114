use Rattle.wgsl_replies.proofs.Common.{false, arith, codes, rules, common_steps, ends_text}
use Rattle.wgsl_replies.proofs.Numbers.{no_short_suffix}
use Rattle.wgsl_replies.proofs.words.number.short_number.Goals as goal

pub returns-in_err-signed : goal.returns-in_err-signed
returns-in_err-signed c =
    let no_suffix = ends_text false (codes "i") c.args.word.now c.in_default.ensures.cases in
    rw (no_short_suffix c.args.word.now no_suffix (ends_text false (codes "u") c.args.word.now c.in_default-strip_suffix.ensures.cases)) (first_of (search rules, grind (arith, common_steps)))

pub returns-in_ok-signed : goal.returns-in_ok-signed
returns-in_ok-signed c =
    let no_suffix = ends_text false (codes "i") c.args.word.now c.in_default.ensures.cases in
    rw (no_short_suffix c.args.word.now no_suffix (ends_text false (codes "u") c.args.word.now c.in_default-strip_suffix.ensures.cases)) (first_of (search rules, grind (arith, common_steps)))
