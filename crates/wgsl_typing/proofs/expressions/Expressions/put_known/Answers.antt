use Rattle.std.proofs.Common.{refl, sym, ap, arith}
use Rattle.wgsl_typing.specs.Stacks.{stack, with_declared}
use Rattle.wgsl_typing.proofs.GivenBack.{past_end, set_known}
use Rattle.wgsl_typing.proofs.expressions.Expressions.put_known.Goals as goal

pub returns-then-index-len : goal.returns-then-index-len
returns-then-index-len c = record {
  stack = ap (λ ds. with_declared ds (stack c.args.self.now))
      (set_known c.args.index c.args.known c.args.known c.args.self.now.declared.items c.index_mut.result.now (omega arith) c.index_mut.ensures.value refl);
}

pub returns-else-index-len : goal.returns-else-index-len
returns-else-index-len c = record {
  stack = ap (λ ds. with_declared ds (stack c.args.self.now)) (sym (past_end c.args.index c.args.known c.args.self.now.declared.items (omega arith)));
}
