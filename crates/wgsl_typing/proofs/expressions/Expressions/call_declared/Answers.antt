use Rattle.std.proofs.Common.{List, None, Option, ap, ◌∙◌}
use Rattle.wgsl_typing.specs.declared.known.Known.{Known}
use Rattle.wgsl_typing.specs.Names.{with_known}
use Rattle.wgsl_typing.specs.Stacks.{Stack, stack, with_declared}
use Rattle.wgsl_typing.specs.declared.expressions.Named.{Named}
use Rattle.wgsl_typing.proofs.GivenBack.{given_back}
use Rattle.wgsl_typing.proofs.expressions.Expressions.call_declared.Goals as goal

pub returns-clause-stack : goal.returns-clause-stack
returns-clause-stack c =
    let i : _ = c.args.index in
    let declared : List Named = c.args.self.now.declared.items in
    let with : List Named → Stack = λ ds. with_declared ds (stack c.args.self.now) in
    (c.put_known.ensures.stack ∙ ap (λ (s : Stack). with_declared (with_known i c.take_known-known.result s.context.declared) s) (c.call_known-outcome.ensures.stack ∙ c.take_known-known.ensures.stack))
    ∙ (ap (λ (k : Option Known). with (with_known i k (with_known i None declared))) c.take_known-known.ensures.taken ∙ ap with (given_back i declared))
