use Rattle.wgsl_typing.proofs.Common.{◌≡◌, drop, reverse, ap, arith, common_steps, length-reverse, ∥∥₁_map, start, starts_of}
use Rattle.wgsl_typing.proofs.Indices.{indexed_closed}
use Rattle.wgsl_typing.proofs.Scopes.{view_closed}
use Rattle.wgsl_typing.proofs.scope.Locals.close.Goals as goal

pub invariant_of-self : goal.invariant_of-self
invariant_of-self c =
    let left : reverse c.pop.new.self.items ≡ drop 1 (reverse c.loop-self.self.blocks.items) = grind (arith, common_steps) in record {
      indexed = ∥∥₁_map c.loop-self.self.indexed (λ is. rw left (indexed_closed c.loop-self.self.innermost _ _ is));
    }

pub returns-clause-closed : goal.returns-clause-closed
returns-clause-closed c =
    let left : reverse c.pop.new.self.items ≡ drop 1 (reverse c.args.self.now.blocks.items) = grind (arith, common_steps) in
    let first : start (starts_of c.loop-self.self) ≡ start (starts_of c.args.self.now) = ap (λ blocks. start (reverse blocks.items)) c.loop-self.invariant.blocks in
    view_closed c.args.self.now (reverse c.loop-self.self.locals.items) (reverse c.pop.new.self.items) left c.loop-self.invariant.kept (omega (arith, c.loop-self-test.false, c.len.ensures, c.first.ensures, first, length-reverse c.loop-self.self.locals.items))
