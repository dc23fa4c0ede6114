use Rattle.std.proofs.Common.{subst}
use Rattle.std.proofs.lemmas.Result.{IfOk-weaker}
use Rattle.wgsl_module.specs.Blocks.{Binds}
use Rattle.wgsl_module.specs.Noted.{BindsVariable}
use Rattle.wgsl_module.specs.States.{state}
use Rattle.wgsl_module.proofs.checker.Checker.declare_variable.Goals as goal

pub returns-clause-variable : goal.returns-clause-variable
returns-clause-variable c =
    let named = c.in_ok-named.named in
    let typed = c.in_ok-named.typed in
    let declared = state c.read_variable.new.self in
    let r = state c.bind.new.self in
    IfOk-weaker c.bind.result (λ u. Binds named typed declared r) (λ u. BindsVariable (state c.args.self.now) r)
    (λ u binds. (typed, declared, c.in_ok-named.ensures.variable, c.in_ok-named.ensures.rest, subst (λ n. Binds n typed declared r) c.in_ok-named.ensures.name binds))
    c.bind.ensures.name
