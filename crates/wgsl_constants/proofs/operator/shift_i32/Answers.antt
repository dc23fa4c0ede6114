use Rattle.std.proofs.Common.{◌≡◌, ◌∙◌, ◌^◌, ℤ, pos, ◌*ℤ◌, to_z, of_z, w32, w64, FitsSigned, ap, lt-ltb}
use Rattle.std.proofs.lemmas.Int.{to_z-of_z}
use Rattle.wgsl_constants.specs.Conversions.{i32_of}
use Rattle.wgsl_constants.proofs.Shifted.{fits}
use Rattle.wgsl_constants.proofs.operator.shift_i32.Goals as goal

-- a value that fits in 64 bits is what is left of it there
held : (x y : ℤ) → FitsSigned w64 x → x ≡ y → to_z w64 (of_z w64 x) ≡ y
held x y f e = to_z-of_z w64 x f ∙ e

pub overflow_mul-from : goal.overflow_mul-from
overflow_mul-from c =
    let a = held c.from.result c.args.value (record { sfits = c.from.type_inv }) (c.from.ensures ∙ to_z-of_z w32 c.args.value c.ranges.value) in
    let p = held c.power_of_two.result (pos (2 ^ c.args.count)) (record { sfits = c.power_of_two.type_inv }) c.power_of_two.ensures in
    rw (a, p) (fits c.args.value c.args.count c.ranges.value c.if-count-lt32.true)

pub returns-then-count-lt32 : goal.returns-then-count-lt32
returns-then-count-lt32 c =
    let a = held c.from.result c.args.value (record { sfits = c.from.type_inv }) (c.from.ensures ∙ to_z-of_z w32 c.args.value c.ranges.value) in
    let p = held c.power_of_two.result (pos (2 ^ c.args.count)) (record { sfits = c.power_of_two.type_inv }) c.power_of_two.ensures in
    let product = c.args.value *ℤ pos (2 ^ c.args.count) in
    let whole : to_z w64 (of_z w64 (to_z w64 (of_z w64 c.from.result) *ℤ to_z w64 (of_z w64 c.power_of_two.result))) ≡ product =
    rw (a, p) (to_z-of_z w64 product (fits c.args.value c.args.count c.ranges.value c.if-count-lt32.true)) in
    rw (lt-ltb c.args.count 32 c.if-count-lt32.true) (c.to_i32.ensures ∙ ap i32_of whole)
