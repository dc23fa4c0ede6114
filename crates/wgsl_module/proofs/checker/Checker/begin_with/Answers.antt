use Rattle.std.proofs.lemmas.Result.{IfOk-weaker}
use Rattle.std.proofs.Common.{subst}
use Rattle.wgsl_module.specs.Runs.{AreParameters}
use Rattle.wgsl_module.specs.States.{state}
use Rattle.wgsl_module.proofs.checker.Checker.begin_with.Goals as goal

pub returns-clause-parameters : goal.returns-clause-parameters
returns-clause-parameters c =
    let r = state c.declare_parameters.new.self in
    IfOk-weaker c.declare_parameters.result (λ u. AreParameters c.args.events.now (state c.expect_result.new.self) r)
    (λ u. AreParameters c.args.events.now (state c.args.self.now) r)
    (λ u are. subst (λ s. AreParameters c.args.events.now s r) c.expect_result.ensures are) c.declare_parameters.ensures.parameters
