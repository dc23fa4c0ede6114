use Rattle.wgsl_replies.proofs.Common.{◌∙◌, w64}
use Rattle.wgsl_replies.proofs.Numbers.{signed_parsed}
use Rattle.wgsl_replies.proofs.words.number.signed.Goals as goal

pub returns : goal.returns
returns c = c.ok.ensures.value ∙ signed_parsed w64 c.args.word.now (λ e. cc (c.if-begins_with_plus.false, c.begins_with_plus.ensures.1 e)) _ c.parse.ensures.value.0
