use Rattle.std.proofs.Common.{refl, ap, ◌∙◌}
use Rattle.wgsl_reader.proofs.Common.{joined, search_of}
use Rattle.wgsl_reader.proofs.Found.{stepped}
use Rattle.wgsl_reader.proofs.lists.search_lists.Goals as goal

pub loop-at-preserved : goal.loop-at-preserved
loop-at-preserved c = (
  refl,
  stepped _ c.args.tokens.now c.loop-at.at _ (search_of c.loop-at.search) (search_of c.step.new.self) c.in_ok-more.more c.loop-at-test.true c.loop-at.invariant.1
      c.joined.result (c.joined.ensures.exact ∙ ap joined c.from.ensures.rest) c.in_ok-more.ensures.exact,
)
