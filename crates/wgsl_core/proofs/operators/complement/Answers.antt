use Rattle.wgsl_core.proofs.Common.{BitwiseComplement, IsUnaryAnswer, view, complement_row, not_complemented}
use Rattle.wgsl_core.proofs.Unary.{own_or_refused}
use Rattle.wgsl_core.proofs.operators.complement.Goals as goal

pub returns-clause-row : goal.returns-clause-row
returns-clause-row c =
    own_or_refused (IsUnaryAnswer BitwiseComplement (view c.args.operand.now)) c.is_integer_or_vector.result c.own_if.result c.own_if.ensures.own c.own_if.ensures.refused
    (λ h. complement_row _ (c.is_integer_or_vector.ensures.0 h)) (λ n. not_complemented _ (λ h. n (c.is_integer_or_vector.ensures.1 h)))
