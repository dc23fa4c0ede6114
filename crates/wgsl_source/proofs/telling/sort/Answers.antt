use Rattle.std.proofs.Common.{arith}
use Rattle.std.proofs.lemmas.List.Filters.{dedup_is}
use Rattle.wgsl_source.proofs.Kept.{still_told}
use Rattle.wgsl_source.proofs.telling.sort.Goals as goal

pub returns : goal.returns
returns c = λ some.
    let old = c.args.faults.now in
    let sorted = c.sort_unstable_by_key.new.self in
    still_told _ old.items sorted.items c.dedup.new.self.items (omega (arith, old.ok.0, sorted.ok.0, c.sort_unstable_by_key.ensures.len)) (dedup_is _ _ _ c.dedup.ensures.filtered) some
