use Rattle.std.proofs.Common.{◌∙◌, None, ap, option_map, subst}
use Rattle.wgsl_module.proofs.Variables.{outcome_behind}
use Rattle.wgsl_module.proofs.checker.Checker.read_variable.Goals as goal
use Rattle.wgsl_typing.specs.declared.known.Part.{Part}
use Rattle.wgsl_module.specs.States.{state}
use Rattle.wgsl_typing.specs.Declarations.{IsVariable, declared_on}
use Rattle.wgsl_typing.specs.Stacks.{below_initializer}
use Rattle.wgsl_syntax.specs.declared.address.AddressSpace.TheVariants.{Function}

pub returns-clause-variable : goal.returns-clause-variable
returns-clause-variable c =
    let items = (state c.args.self.now).stack.items in
    let typed = c.in_ok-typed.typed in
    let outcome = outcome_behind c.as_ref.result c.in_ok-part.part c.as_ref.ensures.value ∙ ap (option_map (λ (p : Part). p.outcome)) c.in_ok-part.ensures.part in
    let declared = c.in_ok-declared.ensures.declared ∙ ap (λ t. declared_on t.items) c.in_ok-part.ensures.rest in
    subst (λ o. IsVariable Function None o (declared_on (below_initializer items)) typed) outcome
    (subst (λ d. IsVariable Function None (option_map (λ p. p.now.outcome) c.as_ref.result) d typed) declared c.in_ok-typed.ensures.variable)
