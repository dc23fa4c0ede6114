use Rattle.wgsl_c.proofs.Transfer.{answered}
use Rattle.wgsl_c.proofs.requests.answer_by.Goals as goal

pub returns : goal.returns
returns c =
    answered _ _ _ _ c.args.rules c.args.request.now c.reply_to.result
    (record {
      which = c.reply_to.ensures.reply;
      too_long = c.reply_to.ensures.too_long;
      forbidden = c.reply_to.ensures.forbidden;
      no_text = c.reply_to.ensures.no_text;
      blank = c.reply_to.ensures.blank;
    })
    c.hand_over.ensures
