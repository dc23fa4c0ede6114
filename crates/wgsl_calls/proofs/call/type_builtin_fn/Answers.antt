use Rattle.wgsl_core.specs.Instances.{call_view}
use Rattle.wgsl_calls.proofs.Named.{leaf_answered}
use Rattle.wgsl_calls.proofs.call.type_builtin_fn.Goals as goal

pub returns-clause-never_out_of_memory : goal.returns-clause-never_out_of_memory
returns-clause-never_out_of_memory c = leaf_answered (call_view c.args.name.now c.args.template c.args.args.now) _ c.answer.ensures
