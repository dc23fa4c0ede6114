use Rattle.std.proofs.Common.{None, option_map, subst, sym}
use Rattle.wgsl_module.proofs.Variables.{held_or_none}
use Rattle.wgsl_module.proofs.checker.Checker.typed_variable.Goals as goal
use Rattle.wgsl_typing.specs.Declarations.{IsVariable}
use Rattle.wgsl_syntax.specs.declared.address.AddressSpace.TheVariants.{Function}

pub returns-clause-variable : goal.returns-clause-variable
returns-clause-variable c =
    let outcome = option_map (λ p. p.now.outcome) c.args.part in
    subst (IsVariable Function None outcome c.args.declared.now) (sym c.if_held.ensures)
    (held_or_none _ Function None outcome c.args.declared.now c.in_ok-typed.typed c.in_ok-typed.ensures.answer)
