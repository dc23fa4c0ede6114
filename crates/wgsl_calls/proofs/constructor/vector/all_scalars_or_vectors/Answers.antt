use Rattle.std.proofs.Common.{rules, true≢false, All, sym, subst, ◌∙◌}
use Rattle.wgsl_calls.proofs.Common.{All-cons, IsScalarOrVector, view}
use Rattle.wgsl_calls.proofs.Arguments.{argument_at, no_argument_at, of_argument}
use Rattle.wgsl_calls.proofs.constructor.vector.all_scalars_or_vectors.Goals as goal

pub returns-then-not-is_scalar_or_vector : goal.returns-then-not-is_scalar_or_vector
returns-then-not-is_scalar_or_vector c =
    (search rules, λ all. absurd (true≢false (sym (c.is_scalar_or_vector.ensures.1 (of_argument IsScalarOrVector c.args.args.now c.loop-arg.arg-index c.arg-item.result c.loop-arg-test.true c.arg-item.is all)) ∙ c.if-not-is_scalar_or_vector.true)))

pub loop-arg-preserved : goal.loop-arg-preserved
loop-arg-preserved c = λ rest. c.loop-arg.invariant
    (subst (All IsScalarOrVector) (sym (argument_at c.args.args.now c.loop-arg.arg-index c.arg-item.result c.loop-arg-test.true c.arg-item.is))
    (All-cons IsScalarOrVector (view c.arg-item.result) _ (c.is_scalar_or_vector.ensures.0 (search rules)) rest))

pub returns : goal.returns
returns c =
    (λ t. c.loop-arg.invariant (subst (All IsScalarOrVector) (sym (no_argument_at c.args.args.now c.loop-arg.arg-index c.loop-arg-test.false)) (λ k d. search rules)), search rules)
