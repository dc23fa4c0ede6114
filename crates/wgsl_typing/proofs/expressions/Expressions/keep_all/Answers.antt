use Rattle.std.proofs.Common.{ap, Some, ◌∙◌}
use Rattle.wgsl_typing.specs.declared.value.Value.TheVariants.{Elements}
use Rattle.wgsl_typing.proofs.expressions.Expressions.keep_all.Goals as goal

pub returns-clause-kept : goal.returns-clause-kept
returns-clause-kept c =
    (c.in_ok-values.values, c.in_ok-values.ensures, c.in_ok-push.ensures.items, ap (λ n. Some (Elements n)) (c.len-which.ensures ∙ c.args.self.now.elements.ok.0))
