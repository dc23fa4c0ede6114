use Rattle.std.proofs.Common.{arith}
use Rattle.wgsl_core.proofs.Equals.{never, same_length}
use Rattle.wgsl_core.proofs.signature.eq.same_parameters.Goals as goal

pub returns-then-len : goal.returns-then-len
returns-then-len c = never (λ e. c.if-len.true (omega (arith, same_length _ _ _ e)))
