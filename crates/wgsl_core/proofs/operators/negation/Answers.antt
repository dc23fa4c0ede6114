use Rattle.wgsl_core.proofs.Common.{Negation, IsUnaryAnswer, opposed, not_opposed, view}
use Rattle.wgsl_core.proofs.Unary.{own_or_refused}
use Rattle.wgsl_core.proofs.operators.negation.Goals as goal

pub returns-clause-row : goal.returns-clause-row
returns-clause-row c =
    own_or_refused (IsUnaryAnswer Negation (view c.args.operand.now)) c.is_scalar.result c.own_if.result c.own_if.ensures.own c.own_if.ensures.refused
    (λ h. opposed _ (c.is_scalar.ensures.0 h)) (λ n. not_opposed _ (λ h. n (c.is_scalar.ensures.1 h)))
