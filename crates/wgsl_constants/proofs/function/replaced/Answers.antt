use Rattle.std.proofs.Common.{◌≡◌, ◌<◌, ◌^◌, ◌*◌, ◌%◌, arith}
use Rattle.std.proofs.Math.Nat.{mod-eq_of_lt}
use Rattle.wgsl_constants.proofs.Fields.{new_in, placed}
use Rattle.wgsl_constants.proofs.function.replaced.Goals as goal

pub overflow_cast-result : goal.overflow_cast-result
overflow_cast-result c =
    let a : c.field.result * 2 ^ c.args.offset < 2 ^ 32 = placed c.field.result c.args.offset c.args.count c.field.ensures.few c.requires in
    let b : c.field-2.result * 2 ^ c.args.offset < 2 ^ 32 = placed c.field-2.result c.args.offset c.args.count c.field-2.ensures.few c.requires in
    let old : c.field.result * 2 ^ c.args.offset % 2 ^ 64 ≡ c.field.result * 2 ^ c.args.offset = mod-eq_of_lt (omega arith) in
    let new : c.field-2.result * 2 ^ c.args.offset % 2 ^ 64 ≡ c.field-2.result * 2 ^ c.args.offset = mod-eq_of_lt (omega arith) in
    record { fits = rw (c.from.ensures, c.from-2.ensures, c.from-3.ensures, old, new, c.field.ensures.exact) (new_in c.args.value c.args.offset c.args.count c.ranges.value.fits c.requires c.field-2.result c.field-2.ensures.few) }
