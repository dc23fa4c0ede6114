use Rattle.std.proofs.Common.{refl}
use Rattle.wgsl_replies.proofs.Reading.{alone_type, left_over}
use Rattle.wgsl_replies.proofs.words.read.read_last_type.Goals as goal

pub returns-then-is_empty : goal.returns-then-is_empty
returns-then-is_empty c = alone_type c.args.words.now _ _ c.in_ok-ty.ensures.read (c.if-is_empty.ensures.0 refl)

pub returns-else-is_empty : goal.returns-else-is_empty
returns-else-is_empty c = left_over c.args.words.now _ _ c.in_ok-ty.ensures.read (λ e. cc (c.if-is_empty.ensures.1 e))
