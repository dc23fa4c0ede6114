-- The names of the list are those of the table, by computation.
use Rattle.std.proofs.Common.{refl}
use Rattle.wgsl_rules.proofs.Common.{call_names, call_table, NamesMatchTable}

pub names_match : NamesMatchTable
unfolding call_names call_table
names_match = record { in_one_part = refl; in_list = refl }
