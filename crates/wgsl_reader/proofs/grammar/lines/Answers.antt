use Rattle.std.proofs.Common.{rules}
use Rattle.wgsl_reader.proofs.Rows.{line_there}
use Rattle.wgsl_reader.proofs.grammar.lines.Goals as goal

pub returns-then-index-rows : goal.returns-then-index-rows
returns-then-index-rows c = line_there c.args.rule c.tables-tables.result c.loop-rows.rows-index c.loop-rows.index c.loop-rows.invariant _ _ (search rules) c.if-index-rows.true
