use Rattle.std.proofs.Common.{◌∙◌, ap, option_map, subst, sym}
use Rattle.wgsl_module.proofs.Variables.{outcome_behind, set_or_none}
use Rattle.wgsl_module.proofs.checker.Checker.read_override.Goals as goal
use Rattle.wgsl_module.specs.Meanings.{IsOverride, IsOverrideOn}
use Rattle.wgsl_module.specs.States.{state}
use Rattle.wgsl_typing.specs.Declarations.{declared_on}
use Rattle.wgsl_typing.specs.Stacks.{below_initializer, initializer_on}
use Rattle.wgsl_typing.specs.declared.known.Part.{Part}

pub returns-clause-value : goal.returns-clause-value
returns-clause-value c =
    let items = (state c.args.self.now).stack.items in
    let typed = c.in_ok-typed.typed in
    let outcome = outcome_behind c.as_ref.result c.in_ok-part.part c.as_ref.ensures.value ∙ ap (option_map (λ (p : Part). p.outcome)) c.in_ok-part.ensures.part in
    let declared = c.in_ok-declared.ensures.declared ∙ ap (λ t. declared_on t.items) c.in_ok-part.ensures.rest in
    subst (IsOverrideOn items) (sym c.if_held.ensures)
    (set_or_none c.args.attributes.are_fine (option_map (λ (p : Part). p.outcome) (initializer_on items)) (declared_on (below_initializer items)) typed
    (subst (λ o. IsOverride o (declared_on (below_initializer items)) typed) outcome
    (subst (λ d. IsOverride (option_map (λ p. p.now.outcome) c.as_ref.result) d typed) declared c.in_ok-typed.ensures.value)))
