use Rattle.std.proofs.Common.{◌<◌, ◌^◌, arith, w64}
use Rattle.std.proofs.lemmas.Int.{to_z_pos}
use Rattle.std.proofs.lemmas.Nat.{one_shl}
use Rattle.std.proofs.Math.Pow.{pow-lt}
use Rattle.wgsl_constants.proofs.operator.power_of_two.Goals as goal

pub returns : goal.returns
returns c =
    let h : c.args.exponent < 63 = c.requires in
    let small : 2 ^ c.args.exponent < 2 ^ 63 = pow-lt h in
    rw (one_shl c.args.exponent 64 (omega arith)) (to_z_pos w64 (2 ^ c.args.exponent) small)
