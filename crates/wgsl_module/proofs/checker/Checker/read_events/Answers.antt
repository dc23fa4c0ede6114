use Rattle.std.proofs.Common.{subst, sym}
use Rattle.wgsl_module.specs.Noted.{Comes}
use Rattle.wgsl_module.specs.States.{state}
use Rattle.wgsl_module.proofs.Runs.{one_behind_other}
use Rattle.wgsl_module.proofs.checker.Checker.read_events.Goals as goal

pub returns-clause-events : goal.returns-clause-events
returns-clause-events c =
    let rest = subst (λ k. Comes c.args.tokens.now c.split_at.result.1.now k (state c.steps-2.new.self)) c.take_attributes-attributes.ensures c.in_ok-steps-2.ensures.events in
    subst (λ es. Comes c.args.tokens.now es (state c.args.self.now) (state c.steps-2.new.self)) (sym c.split_at.ensures.by_index.0)
    (one_behind_other c.args.tokens.now c.split_at.result.0.now c.split_at.result.1.now _ _ _ c.in_ok-steps.ensures.events rest)
