use Rattle.std.proofs.Common.{◌≡◌, map, drop}
use Rattle.wgsl_reader.specs.Words.{entry_of, kind_listed}
use Rattle.wgsl_reader.proofs.word.kind_listed.Given as goal

abbrev pub invariant-loop-listed : goal.invariant-loop-listed
invariant-loop-listed l = kind_listed l.word (map entry_of (drop l.listed-index l.words)) ≡ kind_listed l.word (map entry_of l.words)
