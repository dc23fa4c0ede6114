use Rattle.wgsl_core.proofs.Unary.{gives_back}
use Rattle.wgsl_core.proofs.ty.Type.op_ref.Goals as goal

pub returns-clause-deref_gives_back : goal.returns-clause-deref_gives_back
returns-clause-deref_gives_back c = gives_back _ c.type_unary_op.result c.type_unary_op.ensures.row
