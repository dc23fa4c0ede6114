use Rattle.wgsl_replies.proofs.Cuts.{blank_text}
use Rattle.wgsl_replies.proofs.words.reply.write_reply.Goals as goal

pub returns-in_default-clause-no_words : goal.returns-in_default-clause-no_words
returns-in_default-clause-no_words c = λ _ none. absurd (c.in_default.ensures (blank_text c.args.request.now none))
