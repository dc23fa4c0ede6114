use Rattle.std.proofs.Common.{drop, flat_map}
use Rattle.wgsl_standard.proofs.Common.{IsPlainFormatter, in_order, after_comma}
use Rattle.wgsl_standard.proofs.Listed.{Written}
use Rattle.wgsl_standard.proofs.written.write_after.Given as goal

abbrev pub invariant-loop-index : goal.invariant-loop-index
invariant-loop-index g l = IsPlainFormatter l.initial.f → Written g.W.Write.write_str_gives l.initial.f l.f l.of_vectors (drop l.index (in_order l.parameters))
    (flat_map (after_comma l.of_vectors) (drop l.first (in_order l.parameters)))
