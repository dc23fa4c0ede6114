use Rattle.std.proofs.Common.{◌∙◌, ap, arith, map, refl, subst}
use Rattle.wgsl_module.specs.Declarations.{written}
use Rattle.wgsl_module.specs.States.{state}
use Rattle.wgsl_module.specs.Runs.{IsModule}
use Rattle.wgsl_module.proofs.Unread.{misread_pushed}
use Rattle.wgsl_module.proofs.checker.Checker.declare_misread.Goals as goal
use Rattle.wgsl_module.proofs.checker.Checker.declare_misread.Goals.{in-Some+in_ok-push, in_default}

pub loop-misread-preserved : goal.loop-misread-preserved
loop-misread-preserved c = elim c.match-misread_name.branch [
  | in-Some+in_ok-push w ↦ (
    λ cycles tokens s r is. c.loop-misread.invariant.0 cycles tokens s r (misread_pushed cycles tokens _ _ _ s r w.in_ok-push.ensures.items refl refl
        (subst (λ k. IsModule cycles tokens (map written k.declarations.items) s r) w.self-is is)),
    ap (λ s. (state s).stack) w.self-is ∙ c.loop-misread.invariant.1,
    λ first. absurd (omega (arith, first)),
  )
  | in_default w ↦ (
    λ cycles tokens s r is. c.loop-misread.invariant.0 cycles tokens s r (subst (λ k. IsModule cycles tokens (map written k.declarations.items) s r) w.self-is is),
    ap (λ s. (state s).stack) w.self-is ∙ c.loop-misread.invariant.1,
    λ first. absurd (omega (arith, first)),
  )
]
