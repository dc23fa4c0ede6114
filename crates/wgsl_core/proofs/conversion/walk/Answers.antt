use Rattle.std.proofs.Common.{◌≡◌, ◌≢◌, ◌∙◌, Some, None, sym, ap, subst, refl, option_map, arith}
use Rattle.wgsl_core.proofs.Common.{parent_of, node_view}
use Rattle.wgsl_rules.proofs.conversion.Walks.{Ancestor, itself, ancestor_up, ancestor_parent, ancestor_root, ancestor_short, ancestor_depth, converts_ancestor, converts_in_ancestor}
use Rattle.wgsl_core.proofs.Ranks.{no_rank}
use Rattle.wgsl_core.proofs.conversion.walk.Goals as goal

pub loop-met-init : goal.loop-met-init
loop-met-init c = record { climbed = itself; kept = λ n a. (n, a) }

pub overflow_add-steps : goal.overflow_add-steps
overflow_add-steps c = let k = ancestor_short c.loop-met.invariant.climbed in omega (arith, k)

pub loop-met-preserved : goal.loop-met-preserved
loop-met-preserved c =
    let e : parent_of (node_view c.loop-met.met) ≡ Some (node_view c.in-Some.above) = sym c.parent.ensures ∙ ap (option_map node_view) c.in-Some.is in
    let d : node_view c.args.source ≢ node_view c.loop-met.met = λ p. absurd (cc (sym (c.is_same.ensures.1 (sym p)) ∙ c.loop-met-test.true)) in
    record {
      climbed = ancestor_up e c.loop-met.invariant.climbed;
      kept = λ n a. let k = c.loop-met.invariant.kept n a in let m = ancestor_parent d e k.1 in (m.0, m.2);
    }

pub returns-in-None-clause-rank : goal.returns-in-None-clause-rank
returns-in-None-clause-rank c =
    let e : parent_of (node_view c.loop-met.met) ≡ None = sym c.parent.ensures ∙ ap (option_map node_view) c.in-None.is in
    let d : node_view c.args.source ≢ node_view c.loop-met.met = λ p. absurd (cc (sym (c.is_same.ensures.1 (sym p)) ∙ c.loop-met-test.true)) in
    no_rank _ _ (λ w k. let a = ((converts_ancestor _ _ w).0 k).0 in ancestor_root d e (c.loop-met.invariant.kept a.0 a.1).1)

pub returns-in-None-clause-few : goal.returns-in-None-clause-few
returns-in-None-clause-few c = ancestor_short c.loop-met.invariant.climbed

pub overflow_sub-result : goal.overflow_sub-result
overflow_sub-result c =
    let a = subst (λ p. Ancestor p (node_view c.args.target) c.loop-met.steps) (c.is_same.ensures.0 c.loop-met-test.false) c.loop-met.invariant.climbed in
    omega (arith, ancestor_depth a, c.rank_from_root.ensures, c.rank_from_root-2.ensures)

pub returns-clause-rank : goal.returns-clause-rank
returns-clause-rank c = λ w.
    let a = subst (λ p. Ancestor p (node_view c.args.target) c.loop-met.steps) (c.is_same.ensures.0 c.loop-met-test.false) c.loop-met.invariant.climbed in
    rw (c.rank_from_root.ensures, c.rank_from_root-2.ensures) (
      λ k. (converts_ancestor _ _ w).1 ((c.loop-met.steps, a), sym (cc k)),
      λ k. ap Some (sym ((converts_ancestor _ _ w).0 k).1),
    )

pub returns-clause-few : goal.returns-clause-few
returns-clause-few c = ancestor_short c.loop-met.invariant.climbed

pub returns-clause-steps : goal.returns-clause-steps
returns-clause-steps c =
    let a = subst (λ p. Ancestor p (node_view c.args.target) c.loop-met.steps) (c.is_same.ensures.0 c.loop-met-test.false) c.loop-met.invariant.climbed in
    rw (c.rank_from_root.ensures, c.rank_from_root-2.ensures) ((converts_in_ancestor _ _ _ _).1 (a, refl))
