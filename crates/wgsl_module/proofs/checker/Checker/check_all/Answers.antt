use Rattle.std.proofs.Common.{◌≡◌, ◌∙◌, [], ap, map, subst, sym}
use Rattle.wgsl_module.specs.Declarations.{written}
use Rattle.wgsl_module.specs.States.{state}
use Rattle.wgsl_module.specs.Order.{cycling}
use Rattle.wgsl_module.specs.Recursion.{HasCallOrder}
use Rattle.wgsl_module.specs.Runs.{AreBodies}
use Rattle.wgsl_module.proofs.checker.Checker.check_all.Goals as goal

pub returns-clause-module : goal.returns-clause-module
returns-clause-module c =
    let d = c.in_ok-cycles.ensures.declarations in
    let between = state c.declare_all.new.self in
    let kept = c.in_ok-tell_cycle.ensures.reading ∙ (c.tell_calls.ensures.reading ∙ c.check_entry_points.ensures) in
    let bodies = subst (λ ds. AreBodies c.args.tokens.now (map written ds) between (state c.read_bodies.new.self)) (ap (λ t. t.2) c.in_ok-cycles.ensures.source)
    c.in_ok-read_bodies.ensures in
    let runs = subst (AreBodies c.args.tokens.now (map written c.args.self.now.declarations.items) between) (sym kept) bodies in (
      d.0,
      cycling c.in_ok-cycles.cycles.named.items,
      d.2,
      (d.1, between, d.4, d.5, d.6, d.7, runs, d.3, d.8),
      λ none. subst (λ cycles. cycling cycles ≡ []) c.deref-2.ensures.value (c.in_ok-tell_cycle.ensures.told none),
    )

pub returns-clause-calls : goal.returns-clause-calls
returns-clause-calls c = λ none.
    let none_called : cycling c.in_ok-cycles.cycles.called.items ≡ [] = subst (λ cycles. cycling cycles ≡ []) c.deref.ensures.value (c.in_ok-tell_calls.ensures.told (c.in_ok-tell_cycle.ensures.kept none)) in
    let e = c.args.self.now.expressions in
    subst (λ cycles. HasCallOrder cycles e.text.now e.tokens.now (map written c.args.self.now.declarations.items)) none_called c.in_ok-cycles.ensures.calls
