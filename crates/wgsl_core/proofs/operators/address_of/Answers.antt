use Rattle.wgsl_core.proofs.Unary.{pointer_row}
use Rattle.wgsl_core.proofs.operators.address_of.Goals as goal

pub returns-in_ok-boxed_copy-in_default-space-clause-row : goal.returns-in_ok-boxed_copy-in_default-space-clause-row
returns-in_ok-boxed_copy-in_default-space-clause-row c =
    pointer_row _ c.in-Reference.ensures c.in_ok-boxed_copy-in_default-space.ensures c.in_default-space.not-Handle
