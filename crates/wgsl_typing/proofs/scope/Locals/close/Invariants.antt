use Rattle.wgsl_typing.proofs.Common.{◌≡◌, length, take, vec_len, names_of, start, locals_of, starts_of, before}
use Rattle.wgsl_typing.proofs.scope.Locals.close.Given as goal

abbrev pub invariant-loop-self : goal.invariant-loop-self
invariant-loop-self l = record {
  blocks : l.self.blocks ≡ l.initial.self.blocks;
  kept : before (start (starts_of l.initial.self)) (names_of (locals_of l.self)) ≡ before (start (starts_of l.initial.self)) (names_of (locals_of l.initial.self));
  items : l.self.locals.items ≡ take (vec_len l.self.locals) l.initial.self.locals.items;
}

abbrev pub decreases-loop-self : goal.decreases-loop-self
decreases-loop-self l = length (locals_of l.self)
