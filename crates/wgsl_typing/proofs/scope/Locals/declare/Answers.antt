use Rattle.wgsl_typing.proofs.Common.{◌≡◌, [], ◌∷◌, ◌++◌, ◌∙◌, ap, length, vec_len, arith, ∥∥₁_map, length-reverse, Local, locals_of, starts_of}
use Rattle.wgsl_typing.proofs.Indices.{reverse_push, indexed_declared, indexed_unchanged}
use Rattle.wgsl_typing.proofs.Scopes.{cut_declared, are_nested}
use Rattle.wgsl_typing.proofs.scope.Locals.declare.Goals as goal

pub invariant_of-self-in-Break-branch-2 : goal.invariant_of-self-in-Break-branch-2
invariant_of-self-in-Break-branch-2 c = record {
  indexed = rw c.in_ok-reserve.ensures.items (∥∥₁_map c.args.self.now.indexed (indexed_unchanged c.args.self.now.innermost c.insert.new.self _ _ c.in_err-shadowed.ensures.err));
}

pub invariant_of-self-2 : goal.invariant_of-self-2
invariant_of-self-2 c =
    let local : Local = record { name = c.args.name; bound = record { named = c.args.named; typed = c.args.typed }; shadowed = c.in_ok-shadowed.shadowed } in record {
      indexed = ∥∥₁_map c.args.self.now.indexed (λ is. indexed_declared c.len.result c.args.self.now.innermost c.insert.new.self
          c.args.self.now.locals.items c.push_reserved.new.self.items local (starts_of c.args.self.now) (omega (arith, c.len.ensures, ap length c.in_ok-reserve.ensures.items))
          (c.push_reserved.ensures.items ∙ ap (λ xs. xs ++ local ∷ []) c.in_ok-reserve.ensures.items) c.in_ok-shadowed.ensures.old c.in_ok-shadowed.ensures.updates is);
    }

pub returns-clause-named : goal.returns-clause-named
returns-clause-named c =
    let many : vec_len c.args.self.now.locals ≡ length (locals_of c.args.self.now) = omega (arith, length-reverse c.args.self.now.locals.items) in
    rw (c.push_reserved.ensures.items, c.in_ok-reserve.ensures.items, reverse_push, many)
    (cut_declared (starts_of c.args.self.now) c.args.name.now (locals_of c.args.self.now) (are_nested c.args.self.now))
