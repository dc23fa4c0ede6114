use Rattle.std.proofs.Common.{Some, refl}
use Rattle.wgsl_source.proofs.Common.{counted_size, IsValue}
use Rattle.wgsl_source.proofs.measured.known_array_size.Goals as goal

pub returns : goal.returns
returns c = counted_size c.args.count c.args.count (Some c.args.count) c.times.result (IsValue c.args.stride) refl c.ranges.count.fits refl c.times.ensures
