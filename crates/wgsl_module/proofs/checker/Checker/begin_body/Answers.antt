use Rattle.std.proofs.Common.{subst, sym}
use Rattle.wgsl_module.specs.Runs.{AreParameters}
use Rattle.wgsl_module.specs.States.{state}
use Rattle.wgsl_module.proofs.checker.Checker.begin_body.Goals as goal

pub returns-clause-body : goal.returns-clause-body
returns-clause-body c =
    let are = subst (λ s. AreParameters c.args.events.now s (state c.begin_with.new.self)) c.take_interface-interface.ensures c.in_ok-begin_with.ensures.parameters in (
      state c.enter_body.new.self,
      c.in_ok-enter_body.ensures.body,
      subst (AreParameters c.args.events.now (state c.enter_body.new.self)) (sym c.give_back.ensures) are,
    )
