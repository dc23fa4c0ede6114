use Rattle.wgsl_core.proofs.Common.{counted_size, IsValue}
use Rattle.wgsl_core.proofs.Layouts.{counted}
use Rattle.wgsl_core.proofs.layout.array_size.Goals as goal

pub returns : goal.returns
returns c =
    let k = c.in_ok-count.field-0 in
    let fits = counted c.try_from.result k c.in_ok-count-2.count c.in_ok-count-2.ensures.value c.try_from.ensures in
    counted_size k c.in_ok-count-2.count c.args.count c.times.result (IsValue c.args.stride) c.in_ok-count.was fits.0 fits.1 c.times.ensures
