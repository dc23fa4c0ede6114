use Rattle.std.proofs.Common.{◌≡◌, to_z, of_z, w64, arith}
use Rattle.std.proofs.lemmas.Int.{to_z-of_z}
use Rattle.wgsl_constants.proofs.Shifted.{far_above, far_below}
use Rattle.wgsl_constants.proofs.operator.shift_down.Goals as goal

pub returns-then-value-lt0 : goal.returns-then-value-lt0
returns-then-value-lt0 c =
    let v : to_z w64 (of_z w64 c.args.value) ≡ c.args.value = to_z-of_z w64 c.args.value c.ranges.value in
    far_below c.args.value c.args.count c.ranges.value (omega arith) (rw v at c.if-value-lt0.true)

pub returns-else-value-lt0 : goal.returns-else-value-lt0
returns-else-value-lt0 c =
    let v : to_z w64 (of_z w64 c.args.value) ≡ c.args.value = to_z-of_z w64 c.args.value c.ranges.value in
    far_above c.args.value c.args.count c.ranges.value (omega arith) (rw v at c.if-value-lt0.false)
