use Rattle.std.proofs.Common.{◌≢◌, ◌∙◌, sym, ap, option_map}
use Rattle.wgsl_core.proofs.Common.{Load, view, node_view}
use Rattle.wgsl_core.specs.Equality.{type_eq_decides}
use Rattle.wgsl_core.proofs.Ranks.{equal_rank, equal_steps, loaded_rank, loaded_steps, walked_rank, walked_steps, no_walk}
use Rattle.wgsl_core.proofs.conversion.rank_below_layers.Goals as goal
use Rattle.wgsl_core.proofs.conversion.rank_below_layers.Goals.{then-eq-via-then-eq, then-eq-via-else-eq+then-loads}

pub returns-then-eq-clause-rank : goal.returns-then-eq-clause-rank
returns-then-eq-clause-rank c = elim c.then-eq.branch [
  | then-eq-via-then-eq w ↦ equal_rank _ _ ((type_eq_decides _ _).0 (sym c.eq.ensures ∙ w.if-eq.true))
  | then-eq-via-else-eq+then-loads w ↦ loaded_rank _ _ (w.loads.ensures.0 w.if-loads.true)
]

pub returns-then-eq-clause-steps : goal.returns-then-eq-clause-steps
returns-then-eq-clause-steps c = elim c.then-eq.branch [
  | then-eq-via-then-eq w ↦ equal_steps _ _ ((type_eq_decides _ _).0 (sym c.eq.ensures ∙ w.if-eq.true))
  | then-eq-via-else-eq+then-loads w ↦ loaded_steps _ _ (w.loads.ensures.0 w.if-loads.true)
]

pub returns-in-Some-node_of-clause-rank : goal.returns-in-Some-node_of-clause-rank
returns-in-Some-node_of-clause-rank c =
    walked_rank _ _ _ _ _ ((c.node_of.ensures _).0 (ap (option_map node_view) c.in-Some.is))
    ((c.node_of-in-Some.ensures _).0 (ap (option_map node_view) c.in-Some-node_of.is)) c.walk.ensures.rank

pub returns-in-Some-node_of-clause-steps : goal.returns-in-Some-node_of-clause-steps
returns-in-Some-node_of-clause-steps c =
    walked_steps _ _ _ _ _ _ ((c.node_of.ensures _).0 (ap (option_map node_view) c.in-Some.is))
    ((c.node_of-in-Some.ensures _).0 (ap (option_map node_view) c.in-Some-node_of.is)) c.walk.ensures.steps

pub returns-in-None-node_of-clause-rank : goal.returns-in-None-node_of-clause-rank
returns-in-None-node_of-clause-rank c =
    let d : view c.args.a.now ≢ view c.args.b.now = λ e. absurd (cc (sym ((type_eq_decides _ _).1 e) ∙ (sym c.eq.ensures ∙ c.if-eq.false))) in
    let l : ¬ Load (view c.args.a.now) (view c.args.b.now) = λ h. absurd (cc (sym (c.loads.ensures.1 h) ∙ c.if-loads.false)) in
    no_walk _ _ c.requires d l (λ p q e f. absurd (cc (sym (ap (option_map node_view) c.in-None-node_of.is) ∙ (c.node_of-in-Some.ensures q).1 f)))

pub returns-in-None-clause-rank : goal.returns-in-None-clause-rank
returns-in-None-clause-rank c =
    let d : view c.args.a.now ≢ view c.args.b.now = λ e. absurd (cc (sym ((type_eq_decides _ _).1 e) ∙ (sym c.eq.ensures ∙ c.if-eq.false))) in
    let l : ¬ Load (view c.args.a.now) (view c.args.b.now) = λ h. absurd (cc (sym (c.loads.ensures.1 h) ∙ c.if-loads.false)) in
    no_walk _ _ c.requires d l (λ p q e f. absurd (cc (sym (ap (option_map node_view) c.in-None.is) ∙ (c.node_of.ensures p).1 e)))
