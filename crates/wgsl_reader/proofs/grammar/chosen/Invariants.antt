use Rattle.std.proofs.Common.{◌≡◌, map, drop}
use Rattle.wgsl_reader.specs.Grammar.{chosen, line_of}
use Rattle.wgsl_reader.proofs.grammar.chosen.Given as goal

abbrev pub invariant-loop-kind : goal.invariant-loop-kind
invariant-loop-kind l = chosen l.next (map line_of (drop l.kind-index l.lines)) ≡ chosen l.next (map line_of l.lines)
