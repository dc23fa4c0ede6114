use Rattle.std.proofs.Common.{arith}
use Rattle.wgsl_standard.proofs.CountedLines.{counted_then}
use Rattle.wgsl_standard.proofs.lines.line_count.Goals as goal

pub loop-overload-preserved : goal.loop-overload-preserved
loop-overload-preserved c = record {
  counted = λ name t. counted_then name t c.args.overloads.now c.loop-overload.overload-index _ _ _ c.loop-overload-test.true
      (c.loop-overload.invariant.counted name t) (c.lines_of-count.ensures.lines name t);
  few = omega arith;
}
