use Rattle.std.proofs.Common.{◌∙◌, ap, option_map, slice_get, subst}
use Rattle.wgsl_module.specs.Declarations.{written}
use Rattle.wgsl_module.specs.States.{state}
use Rattle.wgsl_module.specs.Runs.{IsBodyOf}
use Rattle.wgsl_module.proofs.Runs.{next_body}
use Rattle.wgsl_module.proofs.checker.Checker.read_bodies.Goals as goal

pub loop-index-preserved : goal.loop-index-preserved
loop-index-preserved c =
    let body = subst (λ ds. IsBodyOf c.args.tokens.now (option_map written (slice_get ds c.loop-index.index)) (state c.loop-index.self) (state c.read_body.new.self))
    (ap (λ t. t.2) c.loop-index.invariant.1) c.in_ok-read_body.ensures.body in (
      λ r rest. c.loop-index.invariant.0 r (next_body c.args.tokens.now c.args.self.now.declarations.items c.loop-index.index _ _ r body rest),
      c.in_ok-read_body.ensures.source ∙ c.loop-index.invariant.1,
    )
