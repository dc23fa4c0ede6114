use Rattle.std.proofs.Common.{reverse}
use Rattle.wgsl_typing.specs.Parameters.{space_called}
use Rattle.wgsl_typing.specs.Stacks.{stack}
use Rattle.wgsl_typing.proofs.Parameters.{first_called}
use Rattle.wgsl_typing.proofs.expressions.Expressions.next_space.Goals as goal

pub returns-in_ok-tell_among-clause-answer : goal.returns-in_ok-tell_among-clause-answer
returns-in_ok-tell_among-clause-answer c =
    first_called space_called (stack c.args.self.now) (stack c.next_enumerant.new.self) (reverse c.args.list.now.items) c.in-Some.count c.word.result.now c.in_ok-count.field-0 c.space_called-space.result
    c.in_ok-count.ensures.stack c.word.ensures c.in-Some.is c.in_ok-count.ensures.answer c.space_called-space.ensures
