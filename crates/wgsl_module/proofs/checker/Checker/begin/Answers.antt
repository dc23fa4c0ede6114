use Rattle.std.proofs.Common.{◌≡◌, IfOk, subst, sym}
use Rattle.std.proofs.lemmas.Result.{IfOk-weaker}
use Rattle.wgsl_module.specs.Blocks.{Begins, loop_begun}
use Rattle.wgsl_module.specs.States.{state}
use Rattle.wgsl_module.proofs.checker.Checker.begin.Goals as goal
use Rattle.wgsl_reader.specs.declared.kind.Kind.TheVariants.{For}

pub returns-in_ok-open_block-in-For-clause-statement : goal.returns-in_ok-open_block-in-For-clause-statement
returns-in_ok-open_block-in-For-clause-statement c =
    let s = state c.args.self.now in
    let r = state c.begin_loop.new.self in
    subst (λ word. IfOk c.begin_loop.result (λ u. Begins word s r)) (sym c.in-For.is)
    (IfOk-weaker c.begin_loop.result (λ u. r ≡ loop_begun (state c.open_block.new.self)) (λ u. Begins For s r)
    (λ u begun. (state c.open_block.new.self, c.in_ok-open_block-in-For.ensures.block, begun)) c.begin_loop.ensures)
