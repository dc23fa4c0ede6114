use Rattle.std.proofs.Common.{rules, true≢false, All, sym, subst, ◌∙◌}
use Rattle.wgsl_calls.proofs.Common.{All-cons, BringsComponents, view}
use Rattle.wgsl_calls.proofs.Arguments.{argument_at, no_argument_at, of_argument}
use Rattle.wgsl_calls.proofs.constructor.vector.all_bring_components.Goals as goal

pub returns-then-not-brings_components : goal.returns-then-not-brings_components
returns-then-not-brings_components c =
    (search rules, λ all. absurd (true≢false (sym (c.brings_components.ensures.1 (of_argument (BringsComponents (view c.args.ty.now)) c.args.args.now c.loop-arg.arg-index c.arg-item.result c.loop-arg-test.true c.arg-item.is all)) ∙ c.if-not-brings_components.true)))

pub loop-arg-preserved : goal.loop-arg-preserved
loop-arg-preserved c = λ rest. c.loop-arg.invariant
    (subst (All (BringsComponents (view c.args.ty.now))) (sym (argument_at c.args.args.now c.loop-arg.arg-index c.arg-item.result c.loop-arg-test.true c.arg-item.is))
    (All-cons (BringsComponents (view c.args.ty.now)) (view c.arg-item.result) _ (c.brings_components.ensures.0 (search rules)) rest))

pub returns : goal.returns
returns c =
    (λ t. c.loop-arg.invariant (subst (All (BringsComponents (view c.args.ty.now))) (sym (no_argument_at c.args.args.now c.loop-arg.arg-index c.loop-arg-test.false)) (λ k d. search rules)), search rules)
