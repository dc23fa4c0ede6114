use Rattle.std.proofs.Common.{◌≡◌, map, drop}
use Rattle.wgsl_syntax.specs.Names.{named, row_of}
use Rattle.wgsl_syntax.proofs.named.value_named.Given as goal

abbrev pub invariant-loop-value : goal.invariant-loop-value
invariant-loop-value g l = named (map row_of (drop l.value-index l.rows)) l.word ≡ named (map row_of l.rows) l.word
