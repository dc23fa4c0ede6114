use Rattle.std.proofs.Common.{◌≡◌, map, drop}
use Rattle.wgsl_reader.specs.Words.{kind_in, row_of}
use Rattle.wgsl_reader.proofs.word.kind_in.Given as goal

abbrev pub invariant-loop-of : goal.invariant-loop-of
invariant-loop-of l = kind_in l.word l.first (map row_of (drop l.of-index l.rows)) ≡ kind_in l.word l.first (map row_of l.rows)
