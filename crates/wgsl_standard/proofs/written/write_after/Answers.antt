use Rattle.std.proofs.Common.{refl}
use Rattle.wgsl_rules.specs.standard.Overloads.{in_order}
use Rattle.wgsl_standard.proofs.Listed.{one_more_written}
use Rattle.wgsl_standard.proofs.written.write_after.Goals as goal

pub loop-index-preserved : goal.loop-index-preserved
loop-index-preserved g c = λ plain. one_more_written g.W.Write.write_str_gives _ _ _ c.args.of_vectors (in_order c.args.parameters.now) c.loop-index.index _ _ c.pattern_at.ensures
    (c.loop-index.invariant plain) (λ now_plain. c.in_ok-write_next.ensures now_plain refl)
