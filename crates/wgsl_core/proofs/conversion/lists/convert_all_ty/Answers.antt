use Rattle.std.proofs.Common.{rules, ◌≡◌, ◌∷◌, [], ◌++◌, sym, ◌∙◌, ap, refl, subst, inl, inr, true≢false, Some, None, is_some, option_map}
use Rattle.std.proofs.iter.Next.{Yields-more}
use Rattle.wgsl_core.proofs.Common.{Yields, IsCommonOfGiven, view}
use Rattle.wgsl_rules.proofs.conversion.Lists.{common_of_given}
use Rattle.wgsl_core.proofs.Lists.{one_more_given, seen}
use Rattle.wgsl_core.proofs.conversion.lists.convert_all_ty.Goals as goal

pub loop-t-preserved : goal.loop-t-preserved
loop-t-preserved g c = (
  (search rules),
  (search rules),
  one_more_given (Some (view c.in_ok-common.common.now)) c.loop-t.yielded c.in-Some.t (view c.loop-t.common.now) (Some (view c.in_ok-common-2.common.now))
      c.loop-t.invariant.2 c.in_ok-common-2.ensures.common,
)

pub returns : goal.returns
returns g c = (
  c.into_iter-rest.result,
  c.in_ok-common.common ∷ c.loop-t.yielded,
  c.into_iter-rest.ensures.into_iter_gives,
  (
    c.loop-t.t-iterator,
    (c.next.new.self, c.in_ok-common.ensures.steps, subst (λ s. Yields g.I.IntoIter.Iterator.next_gives s c.loop-t.yielded c.loop-t.t-iterator) c.into_iter-t-iterator.ensures.into_iter_gives c.loop-t.yielded_by),
    λ w. (c.next-in-loop-t.new.self, c.in-None.ensures.steps),
  ),
  common_of_given (seen (c.in_ok-common.common ∷ c.loop-t.yielded)) (Some (view c.loop-t.common.now)) c.loop-t.invariant.2,
)

pub returns-in_err-common-2 : goal.returns-in_err-common-2
returns-in_err-common-2 g c =
    let more = Yields-more g.I.IntoIter.Iterator.next_gives c.into_iter-t-iterator.result c.loop-t.yielded c.loop-t.t-iterator c.in-Some.t c.next-in-loop-t.new.self c.loop-t.yielded_by c.in-Some.ensures.steps in
    let r = c.from_residual-in_err-common-2.ensures in
    let none : c.from_residual-in_err-common-2.result ≡ None = r in
    let given = c.in_ok-common.common ∷ (c.loop-t.yielded ++ c.in-Some.t ∷ []) in
    let left = one_more_given (Some (view c.in_ok-common.common.now)) c.loop-t.yielded c.in-Some.t (view c.loop-t.common.now) None c.loop-t.invariant.2 c.in_err-common-2.ensures.common in (
      c.into_iter-rest.result,
      given,
      c.into_iter-rest.ensures.into_iter_gives,
      (
        c.next-in-loop-t.new.self,
        (c.next.new.self, c.in_ok-common.ensures.steps, subst (λ s. Yields g.I.IntoIter.Iterator.next_gives s (c.loop-t.yielded ++ c.in-Some.t ∷ []) c.next-in-loop-t.new.self) c.into_iter-t-iterator.ensures.into_iter_gives more),
        λ w. absurd (elim w [ inl s ↦ true≢false (sym s ∙ ap is_some none) | inr e ↦ (cc e) ]),
      ),
      subst (λ r. IsCommonOfGiven (seen given) (option_map (λ t. view t.now) r)) (sym none) (common_of_given (seen given) None left),
    )

pub returns-in_err-common : goal.returns-in_err-common
returns-in_err-common g c =
    let r = c.from_residual.ensures in
    let none : c.from_residual.result ≡ None = r in (
      c.into_iter-rest.result,
      [],
      c.into_iter-rest.ensures.into_iter_gives,
      (c.into_iter-rest.result, refl, λ w. (c.next.new.self, c.in_err-common.ensures.steps)),
      subst (λ r. IsCommonOfGiven [] (option_map (λ t. view t.now) r)) (sym none) (common_of_given [] None refl),
    )
