use Rattle.std.proofs.Common.{◌∙◌}
use Rattle.wgsl_core.proofs.Ranks.{is_node, no_node, no_result}
use Rattle.wgsl_core.proofs.conversion.node_of.Goals as goal

pub returns-in-Scalar : goal.returns-in-Scalar
returns-in-Scalar c = is_node _ _ c.in-Scalar.ensures

pub returns-in_err-result_struct-in-Struct : goal.returns-in_err-result_struct-in-Struct
returns-in_err-result_struct-in-Struct c =
    rw c.from_residual.ensures
    (no_result _ c.in-Struct.s.now c.in-Struct.ensures (λ r. rw (c.in_err-result_struct-in-Struct.was) at (c.result_struct.ensures r)))

pub returns-in_ok-result_struct-in-Struct : goal.returns-in_ok-result_struct-in-Struct
returns-in_ok-result_struct-in-Struct c =
    is_node _ _ (c.in-Struct.ensures ∙ (c.result_struct.ensures _).0 c.in_ok-result_struct-in-Struct.was)

pub returns-in_default : goal.returns-in_default
returns-in_default c = no_node c.form.ensures c.in_default.not-Scalar c.in_default.not-Struct
