use Rattle.std.proofs.Common.{◌<◌, ◌∙◌, ap, length, rules}
use Rattle.wgsl_module.proofs.Runs.{next_declaration}
use Rattle.wgsl_module.proofs.checker.Checker.declare_in.Goals as goal

pub loop-index-preserved : goal.loop-index-preserved
loop-index-preserved c =
    let inside : c.loop-index.index-index < length c.args.order.now = search rules in (
      λ r rest. c.loop-index.invariant.0 r (next_declaration c.args.tokens.now c.args.self.now.declarations.items _ c.args.order.now c.loop-index.index-index _ _ _ r
          (ap (λ t. t.2) c.loop-index.invariant.1) inside c.in_ok-declare.ensures.declaration rest),
      c.in_ok-declare.ensures.source ∙ c.loop-index.invariant.1,
    )
