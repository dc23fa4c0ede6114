use Rattle.std.proofs.Common.{◌+◌, ◌∙◌, take, arith, sym, subst, true≢false}
use Rattle.wgsl_standard.proofs.Common.{ℕ_discrete, SomeTakesFirst, operand_view, operands_view}
use Rattle.wgsl_standard.proofs.FirstParameters.{refused_seen}
use Rattle.wgsl_standard.proofs.refusal.refused_at.Goals as goal

pub loop-n-preserved : goal.loop-n-preserved
loop-n-preserved c = λ m h. elim (ℕ_discrete m c.loop-n.n) [
  | yes e ↦ subst (λ m. SomeTakesFirst c.args.overloads.now (operands_view (take (m + 1) c.args.operands.now))) (sym e) (c.some_takes_first.ensures.0 c.if-not-some_takes_first.false)
  | no n ↦ c.loop-n.invariant m (omega (arith, h, n))
]

pub returns-then-not-some_takes_first : goal.returns-then-not-some_takes_first
returns-then-not-some_takes_first c = refused_seen c.args.overloads.now operand_view c.args.operands.now c.loop-n.n c.loop-n-test.true
    (λ k. true≢false (sym (c.some_takes_first.ensures.1 k) ∙ c.if-not-some_takes_first.true)) c.loop-n.invariant
