use Rattle.std.proofs.Common.{List, ap, option_map, slice_get, subst}
use Rattle.wgsl_module.specs.Declarations.{written}
use Rattle.wgsl_module.specs.States.{State, state}
use Rattle.wgsl_module.specs.Runs.{DeclaresIf}
use Rattle.wgsl_module.specs.declared.declaration.Declaration.{Declaration}
use Rattle.wgsl_typing.specs.Stacks.{Stack}
use Rattle.wgsl_module.proofs.checker.Checker.declare.Goals as goal

pub returns-clause-declaration : goal.returns-clause-declaration
returns-clause-declaration c =
    let r = state c.read_at.new.self in
    let known = c.in_ok-known.known in
    let with_stack : Stack → State = λ t. record r { stack = t } in
    let at : List Declaration → State → Type 0 = λ ds s. DeclaresIf c.args.tokens.now (option_map written (slice_get ds c.args.index)) known s r in (
      r,
      known,
      subst (λ (q : State). at q.declarations q) c.clear.ensures c.in_ok-known.ensures.declaration,
      ap with_stack c.put_known.ensures.stack,
    )
