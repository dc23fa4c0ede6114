use Rattle.wgsl_standard.proofs.NamedTables.{overloads_unambiguous}
use Rattle.wgsl_standard.proofs.callee.overloads.Goals as goal

pub returns-clause-unambiguous : goal.returns-clause-unambiguous
returns-clause-unambiguous c = overloads_unambiguous c.args.callee c.args.has_template c.table.result c.table.ensures
