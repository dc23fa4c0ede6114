use Rattle.std.proofs.Common.{◌≡◌, ◌∙◌, ◌<◌, ap, arith, length}
use Rattle.wgsl_module.specs.States.{State, state}
use Rattle.wgsl_module.proofs.Runs.{names_alone}
use Rattle.wgsl_module.proofs.Named.{all_have_names, all_unread, one_more_named, one_more_unread}
use Rattle.wgsl_module.proofs.checker.Checker.name_all.Goals as goal

pub loop-index-preserved : goal.loop-index-preserved
loop-index-preserved c =
    let len : c.len-index-end.result ≡ length c.args.self.now.declarations.items = omega (arith, c.len-index-end.ensures) in
    let same : length c.loop-index.self.declarations.items ≡ length c.args.self.now.declarations.items = ap (λ (q : State). length q.declarations) c.loop-index.invariant.0 in
    let inside : c.loop-index.index < length c.loop-index.self.declarations.items = omega (arith, c.loop-index-test.true, len, same) in (
      names_alone (state c.args.self.now) (state c.loop-index.self) (state c.name.new.self) c.loop-index.invariant.0 c.name.ensures.state,
      one_more_named c.loop-index.self c.name.new.self c.loop-index.index inside c.name.ensures.state c.loop-index.invariant.1 c.in_ok-name.ensures.names,
      one_more_unread c.loop-index.self c.name.new.self c.loop-index.index inside c.name.ensures.state c.loop-index.invariant.2 c.named-named.result c.named-named.ensures
          (c.name.ensures.declared ∙ c.in_ok-push.ensures.items),
    )

pub returns-clause-names : goal.returns-clause-names
returns-clause-names c =
    let len : c.len-index-end.result ≡ length c.args.self.now.declarations.items = omega (arith, c.len-index-end.ensures) in
    let same : length c.loop-index.self.declarations.items ≡ length c.args.self.now.declarations.items = ap (λ (q : State). length q.declarations) c.loop-index.invariant.0 in
    all_have_names c.loop-index.self c.loop-index.index (omega (arith, c.loop-index-test.false, len, same)) c.loop-index.invariant.1

pub returns-clause-declared : goal.returns-clause-declared
returns-clause-declared c =
    let len : c.len-index-end.result ≡ length c.args.self.now.declarations.items = omega (arith, c.len-index-end.ensures) in
    let same : length c.loop-index.self.declarations.items ≡ length c.args.self.now.declarations.items = ap (λ (q : State). length q.declarations) c.loop-index.invariant.0 in
    all_unread c.loop-index.self c.loop-index.index (omega (arith, c.loop-index-test.false, len, same)) c.loop-index.invariant.2
