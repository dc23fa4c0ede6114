use Rattle.std.proofs.Common.{◌∙◌, [], ap, false, refl, subst}
use Rattle.wgsl_module.specs.Declarations.{written_in}
use Rattle.wgsl_module.specs.Recursion.{HasCallOrder}
use Rattle.wgsl_module.specs.States.{state, with_names}
use Rattle.wgsl_typing.specs.Stacks.{Stack}
use Rattle.wgsl_module.proofs.checker.Checker.read.Goals as goal

pub returns-clause-parts : goal.returns-clause-parts
returns-clause-parts c =
    let all = c.in_ok-check_all.ensures.module in
    let before = all.0 in
    let after = state c.check_all.new.self in (
      before,
      after,
      all.1,
      ap (λ q. q.stack) all.2 ∙ ap (with_names before.stack.context.names before.stack.context.declared) c.declare_written.ensures.stack,
      c.in-Ok.ensures.module all.1 c.args.tokens.now before after all.3,
      refl,
      all.4,
    )

pub returns-clause-calls : goal.returns-clause-calls
returns-clause-calls c = λ whole none.
    let e = c.declare_written.new.self.expressions in
    subst (λ (s : Stack). HasCallOrder [] s.context.text s.context.tokens (written_in false c.args.grammar.now.events.items)) c.declare_written.ensures.stack
    (subst (HasCallOrder [] e.text.now e.tokens.now) (c.in-Ok.ensures.all whole) (c.in_ok-check_all.ensures.calls none))
