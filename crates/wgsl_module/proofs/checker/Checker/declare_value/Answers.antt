use Rattle.std.proofs.lemmas.Result.{IfOk-weaker}
use Rattle.wgsl_module.specs.Blocks.{Binds}
use Rattle.wgsl_module.specs.Noted.{BindsValue}
use Rattle.wgsl_module.specs.States.{state}
use Rattle.wgsl_module.proofs.checker.Checker.declare_value.Goals as goal

pub returns-clause-value : goal.returns-clause-value
returns-clause-value c =
    let named = c.in_ok-named.named in
    let typed = c.in_ok-named.typed in
    let declared = state c.read_value.new.self in
    let r = state c.bind.new.self in
    IfOk-weaker c.bind.result (λ u. Binds named typed declared r) (λ u. BindsValue c.args.declaration (state c.args.self.now) r)
    (λ u binds. (named, typed, declared, c.in_ok-named.ensures, binds)) c.bind.ensures.name
