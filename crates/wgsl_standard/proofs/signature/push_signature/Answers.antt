use Rattle.std.proofs.Common.{◌∙◌, ap, subst, sym, All}
use Rattle.wgsl_standard.proofs.Common.{All-push, list_any, in_order, is_scalar_or_vector, StandsAtIndex}
use Rattle.wgsl_standard.proofs.NumberedLines.{scalars_stand, vectors_stand}
use Rattle.wgsl_standard.proofs.signature.push_signature.Goals as goal

pub returns-in_ok-push-2-clause-indices : goal.returns-in_ok-push-2-clause-indices
returns-in_ok-push-2-clause-indices c = λ first h. subst (All StandsAtIndex) (sym c.in_ok-push-2.ensures.items)
    (All-push StandsAtIndex _ _ (subst (All StandsAtIndex) (sym c.in_ok-push.ensures.items) (All-push StandsAtIndex _ _ h (scalars_stand c.args.signature c.requires.scalars first)))
    (vectors_stand c.args.signature (ap (λ p. list_any is_scalar_or_vector (in_order p)) (sym c.parameters_of.ensures) ∙ sym c.if-takes_either.ensures) first))

pub returns-else-takes_either-clause-indices : goal.returns-else-takes_either-clause-indices
returns-else-takes_either-clause-indices c = λ first h. subst (All StandsAtIndex) (sym c.in_ok-push.ensures.items)
    (All-push StandsAtIndex _ _ h (scalars_stand c.args.signature c.requires.scalars first))
