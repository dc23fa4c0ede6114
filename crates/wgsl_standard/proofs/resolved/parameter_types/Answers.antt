use Rattle.std.proofs.Common.{◌≡◌, ◌+◌, List, [], ◌∷◌, ◌++◌, drop, length, sym, ◌∙◌, ap, refl, arith, append_assoc, rules, append-nil, map}
use Rattle.wgsl_standard.proofs.Common.{dec_lt, map-append, view, Pattern, Substitution, WgslType, Operand, parameter_for, parameters_for, in_order, operand_view, operands_view}
use Rattle.std.proofs.Math.ListN.{drop_of_length-le}
use Rattle.wgsl_core.specs.declared.ty.Type.{«Type»}
use Rattle.wgsl_standard.proofs.Listed.{listed_at, operand_at, pattern_there}
use Rattle.wgsl_standard.proofs.resolved.parameter_types.Goals as goal

-- without operands there are no parameters
no_operands : (i : Substitution) (ps : List Pattern) → parameters_for i ps [] ≡ []
no_operands i [] = refl
no_operands i (p ∷ ps) = refl

all_made : (i : Substitution) (ps : List Pattern) (xs : List Operand) (ts us : List WgslType) → xs ≡ [] → ts ++ parameters_for i ps xs ≡ us → ts ≡ us
all_made i ps xs ts us e h = sym (append-nil ts) ∙ (ap (λ q. ts ++ q) (sym (no_operands i ps)) ∙ (ap (λ xs. ts ++ parameters_for i ps xs) (sym e) ∙ h))

no_more : (i : Substitution) (ps : List Pattern) (xs : List Operand) (ts us : List WgslType) → ps ≡ [] → ts ++ parameters_for i ps xs ≡ us → ts ≡ us
no_more i ps xs ts us e h = sym (append-nil ts) ∙ (ap (λ ps. ts ++ parameters_for i ps xs) (sym e) ∙ h)

one_more : (i : Substitution) (p : Pattern) (ps qs : List Pattern) (x : Operand) (xs ys : List Operand) (ts us vs : List WgslType)
    → qs ≡ p ∷ ps → ys ≡ x ∷ xs → vs ≡ ts ++ (parameter_for i p x.of_type ∷ []) → ts ++ parameters_for i qs ys ≡ us → vs ++ parameters_for i ps xs ≡ us
one_more i p ps qs x xs ys ts us vs e f g h =
    ap (λ vs. vs ++ parameters_for i ps xs) g ∙ append_assoc ts (parameter_for i p x.of_type ∷ []) (parameters_for i ps xs)
    ∙ (ap (λ qs. ts ++ parameters_for i qs (x ∷ xs)) (sym e) ∙ (ap (λ ys. ts ++ parameters_for i qs ys) (sym f) ∙ h))

made : (ts : List «Type») (t : «Type») (vs : List «Type») (u : WgslType) → vs ≡ ts ++ t ∷ [] → view t ≡ u → map view vs ≡ map view ts ++ u ∷ []
made ts t vs u e f =
    let both : map view (ts ++ t ∷ []) ≡ map view ts ++ view t ∷ [] = search (rules, map-append) in
    ap (map view) e ∙ (both ∙ ap (λ u. map view ts ++ u ∷ []) f)

pub loop-index-preserved : goal.loop-index-preserved
loop-index-preserved c = one_more c.args.substitution.now _ (drop (c.loop-index.index + 1) (in_order c.args.parameters.now)) (drop c.loop-index.index (in_order c.args.parameters.now))
    (operand_view c.index-operands-index.result) (operands_view (drop (c.loop-index.index + 1) c.args.operands.now)) (operands_view (drop c.loop-index.index c.args.operands.now)) _ _ _
    (pattern_there (in_order c.args.parameters.now) c.loop-index.index _
    (listed_at (in_order c.args.parameters.now) c.patterns_of-patterns.result c.loop-index.index c.min.result _ c.patterns_of-patterns.ensures
    (omega (arith, c.loop-index-test.true, c.min-index-end.ensures, c.parameter_count.ensures)) c.min.ensures))
    (ap operands_view (operand_at c.args.operands.now c.loop-index.index c.index-operands-index.result (omega (arith, c.loop-index-test.true, c.min-index-end.ensures)) c.index-operands-index.is))
    (made c.loop-index.types.items c.in_ok-parameter_for.field-0 c.push.new.self.items _ c.in_ok-push.ensures.items c.in_ok-parameter_for.ensures)
    c.loop-index.invariant

pub returns : goal.returns
returns c = elim (dec_lt c.loop-index.index (length c.args.operands.now)) [
  | yes h ↦ no_more c.args.substitution.now (drop c.loop-index.index (in_order c.args.parameters.now)) (operands_view (drop c.loop-index.index c.args.operands.now)) _ _
      (drop_of_length-le (in_order c.args.parameters.now) (omega (arith, h, c.loop-index-test.false, c.min-index-end.ensures, c.parameter_count.ensures))) c.loop-index.invariant
  | no n ↦ all_made c.args.substitution.now (drop c.loop-index.index (in_order c.args.parameters.now)) (operands_view (drop c.loop-index.index c.args.operands.now)) _ _
      (ap operands_view (drop_of_length-le c.args.operands.now (omega (arith, n)))) c.loop-index.invariant
]
