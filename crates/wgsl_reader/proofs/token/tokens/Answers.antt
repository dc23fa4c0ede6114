use Rattle.std.proofs.Common.{refl, sym, ap, ◌∙◌, rules}
use Rattle.wgsl_reader.specs.Tokens.{piece_of}
use Rattle.wgsl_reader.proofs.Tokens.{begun, gap_passed, token_passed}
use Rattle.wgsl_reader.proofs.token.tokens.Goals as goal

pub loop-at-init : goal.loop-at-init
loop-at-init c = (refl, begun c.args.text.now c.mark_len-at.result _ (search rules) c.mark_len-at.ensures.exact)

pub loop-at-preserved-in-Gap : goal.loop-at-preserved-in-Gap
loop-at-preserved-in-Gap c =
    let piece = sym c.in-Gap.is ∙ (c.piece_of.ensures.exact ∙ ap piece_of c.from.ensures.rest) in
    (refl, gap_passed c.args.text.now c.loop-at.tokens.items c.loop-at.at c.loop-at-test.true c.loop-at.invariant.1 c.in-Gap.len c.behind-at.result piece c.behind-at.ensures)

pub loop-at-preserved : goal.loop-at-preserved
loop-at-preserved c =
    let piece = sym c.in-Token.is ∙ (c.piece_of.ensures.exact ∙ ap piece_of c.from.ensures.rest) in
    (refl, token_passed c.args.text.now c.loop-at.tokens.items c.loop-at.at c.loop-at-test.true c.loop-at.invariant.1 c.in-Token.kind c.in-Token.len c.behind-at-in-Token.result piece c.behind-at-in-Token.ensures c.push.new.self.items c.in_ok-push-in-Token.ensures.items)
