use Rattle.std.proofs.Common.{◌≡◌, map, drop}
use Rattle.wgsl_reader.proofs.Common.{tag_of, the_type as rule_type, rows_of, tables}
use Rattle.wgsl_reader.proofs.Rows.{found_at}
use Rattle.wgsl_reader.proofs.grammar.lines.Given as goal

abbrev pub invariant-loop-rows : goal.invariant-loop-rows
invariant-loop-rows l = found_at l.index (map rows_of (drop l.rows-index l.rows-items)) ≡ found_at (tag_of rule_type l.fn.rule) tables
