use Rattle.std.proofs.Common.{◌≡◌, sym, subst, arith}
use Rattle.std.specs.Int.{◌∣◌}
use Rattle.std.proofs.lemmas.Grind.{common_steps}
use Rattle.wgsl_report.proofs.Divides.{divides_zero, divides_other}
use Rattle.wgsl_report.proofs.spaces.layout.divides.Goals as goal

pub returns-then-divisor-eq0 : goal.returns-then-divisor-eq0
returns-then-divisor-eq0 c =
    let zero : c.args.divisor ≡ 0 = grind (arith, common_steps, c.if-divisor-eq0.true) in
    let z = divides_zero c.args.number in (
      λ h. subst (λ d. d ∣ c.args.number) (sym zero) (z.0 (grind (arith, common_steps, h))),
      λ h. let e : c.args.number ≡ 0 = z.1 (subst (λ d. d ∣ c.args.number) zero h) in grind (arith, common_steps, e),
    )

pub returns-else-divisor-eq0 : goal.returns-else-divisor-eq0
returns-else-divisor-eq0 c =
    let z = divides_other c.args.divisor c.args.number in (
      λ h. z.0 (grind (arith, common_steps, h)),
      λ h. let e = z.1 h in grind (arith, common_steps, e),
    )
