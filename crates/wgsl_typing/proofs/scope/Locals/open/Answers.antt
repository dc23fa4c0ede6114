use Rattle.wgsl_typing.proofs.Common.{arith, ∥∥₁_map, length-reverse, locals_of, starts_of}
use Rattle.wgsl_typing.proofs.Indices.{reverse_push, indexed_opened}
use Rattle.wgsl_typing.proofs.Scopes.{cut_opened}
use Rattle.wgsl_typing.proofs.scope.Locals.open.Goals as goal

pub invariant_of-self-2 : goal.invariant_of-self-2
invariant_of-self-2 c = record {
  indexed = ∥∥₁_map c.args.self.now.indexed (λ is. rw (c.push_reserved.ensures.items, c.in_ok-reserve.ensures.items, reverse_push)
      (indexed_opened _ _ (starts_of c.args.self.now) c.len.result (omega (arith, c.len.ensures, length-reverse c.args.self.now.locals.items)) is));
}

pub returns-clause-opened : goal.returns-clause-opened
returns-clause-opened c =
    rw (c.push_reserved.ensures.items, c.in_ok-reserve.ensures.items, reverse_push)
    (cut_opened c.len.result (starts_of c.args.self.now) (locals_of c.args.self.now) (omega (arith, c.len.ensures, length-reverse c.args.self.now.locals.items)))
