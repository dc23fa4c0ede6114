use Rattle.wgsl_core.proofs.Unary.{reference_row}
use Rattle.wgsl_core.proofs.operators.indirection.Goals as goal

pub returns-in_ok-boxed_copy-in-Pointer-clause-row : goal.returns-in_ok-boxed_copy-in-Pointer-clause-row
returns-in_ok-boxed_copy-in-Pointer-clause-row c = reference_row _ c.in-Pointer.ensures c.in_ok-boxed_copy-in-Pointer.ensures
