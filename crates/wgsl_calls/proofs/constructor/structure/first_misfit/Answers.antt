use Rattle.std.proofs.Common.{rules, Some, true≢false, sym, ◌∙◌}
use Rattle.wgsl_core.specs.View.{view}
use Rattle.wgsl_calls.proofs.Arguments.{passed, stopped, shorter}
use Rattle.wgsl_calls.proofs.constructor.structure.first_misfit.Goals as goal

pub returns-then-not-is_convertible_to : goal.returns-then-not-is_convertible_to
returns-then-not-is_convertible_to c = λ e. (c.loop-member.invariant e).1 (Some (view c.in-Some.member.now.ty, view c.in-Some.arg.now))
    (stopped c.in-Some.member.now c.in-Some.arg.now _ _ _ _ (λ h. absurd (true≢false (sym (c.is_convertible_to.ensures.1 h) ∙ c.if-not-is_convertible_to.true))) c.in-Some.ensures.steps.0 c.in-Some.ensures.steps.1)

pub loop-member-preserved : goal.loop-member-preserved
loop-member-preserved c = λ e. (
  shorter c.in-Some.member.now c.in-Some.arg.now _ _ _ _ c.in-Some.ensures.steps.0 c.in-Some.ensures.steps.1 (c.loop-member.invariant e).0,
  passed c.in-Some.member.now c.in-Some.arg.now _ _ _ _ (c.is_convertible_to.ensures.0 (search rules)) c.in-Some.ensures.steps.0 c.in-Some.ensures.steps.1
      _ _ (c.loop-member.invariant e).1,
)
