use Rattle.std.proofs.Common.{◌∙◌, ap, option_map, subst}
use Rattle.wgsl_module.proofs.Variables.{outcome_behind}
use Rattle.wgsl_module.proofs.checker.Checker.read_global.Goals as goal
use Rattle.wgsl_module.specs.Meanings.{IsGlobal, space_of}
use Rattle.wgsl_module.specs.States.{state}
use Rattle.wgsl_typing.specs.Declarations.{declared_on}
use Rattle.wgsl_typing.specs.Stacks.{below, below_declared, below_initializer, initializer_on, space_on}
use Rattle.wgsl_typing.specs.declared.known.Part.{Part}

pub returns-clause-variable : goal.returns-clause-variable
returns-clause-variable c =
    let items = (state c.args.self.now).stack.items in
    let typed = c.in_ok-typed.typed in
    let outcome = outcome_behind c.as_ref.result c.in_ok-part.part c.as_ref.ensures.value ∙ ap (option_map (λ (p : Part). p.outcome)) c.in_ok-part.ensures.part in
    let behind = ap (λ t. t.items) c.in_ok-part.ensures.rest in
    let declared = c.in_ok-declared.ensures.declared ∙ ap declared_on behind in
    let space = c.take_space-space.ensures.space ∙ ap space_on (ap (λ t. t.items) c.take_name.ensures.rest
    ∙ ap below (ap (λ t. t.items) c.in_ok-declared.ensures.rest ∙ ap below_declared behind)) in
    subst (λ s. IsGlobal (space_of s) (option_map (λ p. p.outcome) (initializer_on items)) (declared_on (below_initializer items)) typed) space
    (subst (λ o. IsGlobal (space_of c.take_space-space.result) o (declared_on (below_initializer items)) typed) outcome
    (subst (λ d. IsGlobal (space_of c.take_space-space.result) (option_map (λ p. p.now.outcome) c.as_ref.result) d typed) declared c.in_ok-typed.ensures.variable))
