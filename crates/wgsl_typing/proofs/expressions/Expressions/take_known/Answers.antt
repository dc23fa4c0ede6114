use Rattle.std.proofs.Common.{None, sym, ap, ◌∙◌, arith}
use Rattle.wgsl_typing.specs.Stacks.{stack, with_declared}
use Rattle.wgsl_typing.proofs.GivenBack.{known_at, past_end, set_known}
use Rattle.wgsl_typing.proofs.expressions.Expressions.take_known.Goals as goal

pub returns-then-index-len-clause-stack : goal.returns-then-index-len-clause-stack
returns-then-index-len-clause-stack c =
    ap (λ ds. with_declared ds (stack c.args.self.now)) (sym (past_end c.args.index None c.args.self.now.declared.items (omega arith)))

pub returns-clause-taken : goal.returns-clause-taken
returns-clause-taken c =
    c.take.ensures.value ∙ (ap (λ d. d.known) c.index_mut.ensures.value ∙ known_at c.args.index c.args.self.now.declared.items c.index_mut.result.now (omega arith))

pub returns-clause-stack : goal.returns-clause-stack
returns-clause-stack c =
    ap (λ ds. with_declared ds (stack c.args.self.now))
    (set_known c.args.index None c.take.new.self c.args.self.now.declared.items c.index_mut.result.now (omega arith) c.index_mut.ensures.value c.take.ensures.after)
