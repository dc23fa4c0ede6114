use Rattle.wgsl_typing.proofs.Common.{◌≡◌, sym, ap, arith, ∥∥₁_map, common_steps, starts_of}
use Rattle.wgsl_typing.proofs.Indices.{indexed_forgotten, indexed_unchanged, last_is}
use Rattle.wgsl_typing.proofs.scope.Locals.forget.Goals as goal

pub invariant_of-self-in-Break-branch-2 : goal.invariant_of-self-in-Break-branch-2
invariant_of-self-in-Break-branch-2 c = record {
  indexed = ∥∥₁_map c.args.self.now.indexed (indexed_unchanged c.args.self.now.innermost c.give.new.index _ _ c.in_err-give.ensures.unchanged);
}

pub invariant_of-self-in-Some-pop : goal.invariant_of-self-in-Some-pop
invariant_of-self-in-Some-pop c =
    let same : c.in-Some.local.now ≡ c.in-Some-pop.local = grind (arith, common_steps, last_is c.pop.new.self.items c.in-Some-pop.local) in record {
      indexed = ∥∥₁_map c.args.self.now.indexed (λ is. indexed_forgotten c.in-Some.local.now.shadowed c.args.self.now.innermost c.give.new.index
          c.args.self.now.locals.items c.pop.new.self.items c.in-Some-pop.local (starts_of c.args.self.now) c.in-Some-pop.ensures.items (omega (arith, c.requires))
          (ap (λ l. l.shadowed) (sym same)) (rw (← same) c.in_ok-give.ensures.given) is);
    }
