use Rattle.wgsl_core.proofs.Common.{LogicalNegation, IsUnaryAnswer, negated, not_negated, view}
use Rattle.wgsl_core.proofs.Unary.{own_or_refused}
use Rattle.wgsl_core.proofs.operators.logical_negation.Goals as goal

pub returns-clause-row : goal.returns-clause-row
returns-clause-row c =
    own_or_refused (IsUnaryAnswer LogicalNegation (view c.args.operand.now)) c.is_bool_or_vector.result c.own_if.result c.own_if.ensures.own c.own_if.ensures.refused
    (λ h. negated _ (c.is_bool_or_vector.ensures.0 h)) (λ n. not_negated _ (λ h. n (c.is_bool_or_vector.ensures.1 h)))
