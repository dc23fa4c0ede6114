-- In a table, the first overload that takes the operands has the preferred candidate at its least substitution.
use Rattle.std.proofs.Common.{◌≡◌, ℕ, zero, suc, ◌<◌, ◌≤◌, ◌⊎◌, List, [], ◌∷◌, map, Option, Some, None, Bool, refl, sym, ◌∙◌, ap, subst, inl, inr, arith, le_refl, slice_get, option_map}
use Rattle.wgsl_standard.proofs.Common.{WgslType, IsNowhereMore, IsSomewhereLess, scalar_depth, depth, Pattern, Component, Overload, Operand, TakesOperands, parameter_for, parameters_for, result_for, IsChosen, Substitution, dimensions_in, component_in, patterns_of, IsSubstitution, IsCandidateOf, HasOneResult, IsPreferredTo, IsPreferredToAll, AreInOrder, IsUnambiguous, must_be_concrete, substitution_of, or_later, later, first_of}
use Rattle.wgsl_syntax.specs.declared.overload.Pattern.TheVariants as patterns
use Rattle.wgsl_standard.proofs.Boxes.{same_operand, Fit, AllFit}
use Rattle.wgsl_standard.proofs.Ranks.{depth_type_with, ranks_fit, parameters_are, fit_ranks, fit_values, constant_takable, takable_constant, ranks_below, ranks_less}
use Rattle.wgsl_standard.proofs.LeastSubstitutions.{IsNear, IsNearFor, AllNear, IsLeastSubstitution, LeastOr, least_substitution}

-- the parameters for operands, compared by their depths

near_component : (i j : Substitution) (e : Component) → IsNear i j e → scalar_depth (component_in i e) ≤ scalar_depth (component_in j e)
near_component i j e (inl q) = subst (λ s. scalar_depth (component_in i e) ≤ scalar_depth s) (sym q) (le_refl (scalar_depth (component_in i e)))
near_component i j e (inr d) = omega (arith, d)

near_parameter : (i j : Substitution) (p : Pattern) (t : WgslType) → IsNearFor i j p → depth (parameter_for i p t) ≤ depth (parameter_for j p t)
near_parameter i j (patterns.Value s e) t h =
    omega (arith, near_component i j e h, depth_type_with (dimensions_in i s) (component_in i e), depth_type_with (dimensions_in j s) (component_in j e))
near_parameter i j p t h = le_refl _

near_below : (c : Bool) (i j : Substitution) (ps : List Pattern) (xs : List Operand) → AllFit c i ps xs → AllNear i j ps →
    IsNowhereMore (map depth (parameters_for i ps xs)) (map depth (parameters_for j ps xs))
near_below c i j [] [] f h = tt
near_below c i j (p ∷ ps) (x ∷ xs) f h = (near_parameter i j p x.of_type h.0, near_below c i j ps xs f.1 h.1)
near_below c i j ps xs f h = absurd f

near_same : (c : Bool) (i j : Substitution) (p : Pattern) (x : Operand) → Fit c i p x → Fit c j p x → IsNearFor i j p →
    (parameter_for j p x.of_type ≡ parameter_for i p x.of_type) ⊎ (depth (parameter_for i p x.of_type) < depth (parameter_for j p x.of_type))
near_same c i j (patterns.Value s e) x f g (inl q) =
    let o : dimensions_in j s ≡ dimensions_in i s = (same_operand c j i s e s e x.of_type g f).0 in
    inl (cc (o, q))
near_same c i j (patterns.Value s e) x f g (inr d) =
    inr (omega (arith, d, depth_type_with (dimensions_in i s) (component_in i e), depth_type_with (dimensions_in j s) (component_in j e)))
near_same c i j p x f g h = inl refl

near_less : (c : Bool) (i j : Substitution) (ps : List Pattern) (xs : List Operand) → AllFit c i ps xs → AllFit c j ps xs → AllNear i j ps →
    (parameters_for j ps xs ≡ parameters_for i ps xs) ⊎ IsSomewhereLess (map depth (parameters_for i ps xs)) (map depth (parameters_for j ps xs))
near_less c i j [] [] f g h = inl refl
near_less c i j (p ∷ ps) (x ∷ xs) f g h = turn (near_same c i j p x f.0 g.0 h.0) (near_less c i j ps xs f.1 g.1 h.1)
  where
    turn : (parameter_for j p x.of_type ≡ parameter_for i p x.of_type) ⊎ (depth (parameter_for i p x.of_type) < depth (parameter_for j p x.of_type)) →
        (parameters_for j ps xs ≡ parameters_for i ps xs) ⊎ IsSomewhereLess (map depth (parameters_for i ps xs)) (map depth (parameters_for j ps xs)) →
        (parameters_for j (p ∷ ps) (x ∷ xs) ≡ parameters_for i (p ∷ ps) (x ∷ xs)) ⊎
        IsSomewhereLess (map depth (parameters_for i (p ∷ ps) (x ∷ xs))) (map depth (parameters_for j (p ∷ ps) (x ∷ xs)))
    turn (inr d) r = inr (inl d)
    turn (inl e) (inr r) = inr (inr r)
    turn (inl e) (inl q) = inl (cc (e, q))
near_less c i j ps xs f g h = absurd f

-- a candidate that takes operands is that of a substitution that fits them
pub record Taken (o : Overload) (xs : List Operand) (us : List WgslType) (r : Option WgslType) (ws : List ℕ) : Type 0 where
  pub substitution : Substitution
  pub admitted : IsSubstitution o substitution
  pub parameters : us ≡ parameters_for substitution (patterns_of o) xs
  pub fits : AllFit (must_be_concrete xs) substitution (patterns_of o) xs

pub taken : (o : Overload) (xs : List Operand) (us : List WgslType) (r : Option WgslType) (ws : List ℕ) → IsCandidateOf o us r → TakesOperands us xs ws → Taken o xs us r ws
taken o xs us r ws h k = record {
  substitution = h.substitution;
  admitted = h.admitted;
  parameters = parameters_are h.substitution (patterns_of o) us xs ws h.parameters k.values k.converts;
  fits = ranks_fit (must_be_concrete xs) h.substitution (patterns_of o) us xs ws h.parameters k.values k.converts (constant_takable xs us k.constant);
}

-- the candidate of a substitution that fits operands takes them

pub found_candidate : (o : Overload) (xs : List Operand) (i : Substitution) → IsSubstitution o i → AllFit (must_be_concrete xs) i (patterns_of o) xs →
    IsCandidateOf o (parameters_for i (patterns_of o) xs) (result_for i o xs)
found_candidate o xs i a f = record { substitution = i; admitted = a; parameters = (fit_ranks (must_be_concrete xs) i (patterns_of o) xs f).parameters; result = refl }

found_takes : (o : Overload) (xs : List Operand) (i : Substitution) → AllFit (must_be_concrete xs) i (patterns_of o) xs → (ws : List ℕ) × TakesOperands (parameters_for i (patterns_of o) xs) xs ws
found_takes o xs i f =
    let k = fit_ranks (must_be_concrete xs) i (patterns_of o) xs f in (
      k.ranks,
      record {
        values = fit_values (must_be_concrete xs) i (patterns_of o) xs f;
        converts = k.converts;
        constant = takable_constant xs (parameters_for i (patterns_of o) xs) k.takable;
      },
    )

-- within an overload, the least substitution is preferred
within_one : (o : Overload) (xs : List Operand) (i : Substitution) → HasOneResult o → IsLeastSubstitution (must_be_concrete xs) o (patterns_of o) xs i →
    (ranks : List ℕ) → TakesOperands (parameters_for i (patterns_of o) xs) xs ranks → (vs : List WgslType) (s : Option WgslType) (ws : List ℕ) → IsCandidateOf o vs s → TakesOperands vs xs ws →
    (vs ≡ parameters_for i (patterns_of o) xs) × (s ≡ result_for i o xs) ⊎ IsNowhereMore ranks ws × IsSomewhereLess ranks ws
within_one o xs i d l ranks k vs s ws h m =
    let t = taken o xs vs s ws h m in
    let n = l.least t.substitution t.admitted t.fits in
    turn t n (near_less (must_be_concrete xs) i t.substitution (patterns_of o) xs l.fits t.fits n)
  where
    turn : (t : Taken o xs vs s ws) → AllNear i t.substitution (patterns_of o) →
        (parameters_for t.substitution (patterns_of o) xs ≡ parameters_for i (patterns_of o) xs) ⊎
        IsSomewhereLess (map depth (parameters_for i (patterns_of o) xs)) (map depth (parameters_for t.substitution (patterns_of o) xs)) →
        (vs ≡ parameters_for i (patterns_of o) xs) × (s ≡ result_for i o xs) ⊎ IsNowhereMore ranks ws × IsSomewhereLess ranks ws
    turn t n (inl e) =
        let q : vs ≡ parameters_for i (patterns_of o) xs = t.parameters ∙ e in
        inl (q, d (parameters_for i (patterns_of o) xs) s (result_for i o xs) (subst (λ vs. IsCandidateOf o vs s) q h) (found_candidate o xs i l.admitted l.fits))
    turn t n (inr q) =
        let less : IsSomewhereLess (map depth (parameters_for i (patterns_of o) xs)) (map depth vs) =
        subst (λ vs. IsSomewhereLess (map depth (parameters_for i (patterns_of o) xs)) (map depth vs)) (sym t.parameters) q in
        let below : IsNowhereMore (map depth (parameters_for i (patterns_of o) xs)) (map depth vs) =
        subst (λ vs. IsNowhereMore (map depth (parameters_for i (patterns_of o) xs)) (map depth vs)) (sym t.parameters)
        (near_below (must_be_concrete xs) i t.substitution (patterns_of o) xs l.fits n) in
        inr (
          ranks_below (parameters_for i (patterns_of o) xs) vs xs ranks ws k.values k.converts m.converts below,
          ranks_less (parameters_for i (patterns_of o) xs) vs xs ranks ws k.values k.converts m.converts less,
        )

preferred_at : (o : Overload) (os : List Overload) → IsPreferredToAll o os → (k : ℕ) (p : Overload) → slice_get os k ≡ Some p → IsPreferredTo o p
preferred_at o [] h k p e = absurd (cc e)
preferred_at o (q ∷ os) h zero p e = let m : q ≡ p = cc e in subst (IsPreferredTo o) m h.0
preferred_at o (q ∷ os) h (suc k) p e = preferred_at o os h.1 k p e

first_found : (o : Overload) (os : List Overload) (xs : List Operand) → HasOneResult o → IsPreferredToAll o os → (i : Substitution) →
    IsLeastSubstitution (must_be_concrete xs) o (patterns_of o) xs i → IsChosen (o ∷ os) xs (Some (0, i))
first_found o os xs d a i l =
    let k = found_takes o xs i l.fits in
    let own : IsCandidateOf o (parameters_for i (patterns_of o) xs) (result_for i o xs) = found_candidate o xs i l.admitted l.fits in (
      o,
      refl,
      record {
        candidate = record { overload = o; here = refl; candidate = own };
        ranks = k.0;
        takes = k.1;
        least = λ j vs s ws h m. against own k.0 k.1 j vs s ws h.overload h.here h.candidate m;
      },
    )
  where
    against : IsCandidateOf o (parameters_for i (patterns_of o) xs) (result_for i o xs) → (ranks : List ℕ) → TakesOperands (parameters_for i (patterns_of o) xs) xs ranks → (j : ℕ) (vs : List WgslType) (s : Option WgslType) (ws : List ℕ) (p : Overload) → slice_get (o ∷ os) j ≡ Some p → IsCandidateOf p vs s → TakesOperands vs xs ws →
        (j ≡ 0) × (vs ≡ parameters_for i (patterns_of o) xs) × (s ≡ result_for i o xs) ⊎ IsNowhereMore ranks ws × IsSomewhereLess ranks ws
    against own ranks k zero vs s ws p e h m =
        let q : o ≡ p = cc e in
        elim (within_one o xs i d l ranks k vs s ws (subst (λ p. IsCandidateOf p vs s) (sym q) h) m) [
          | inl f ↦ inl (refl, f.0, f.1)
          | inr f ↦ inr f
        ]
    against own ranks k (suc j) vs s ws p e h m = inr (preferred_at o os a j p e xs (parameters_for i (patterns_of o) xs) vs (result_for i o xs) s ranks ws own k h m)

not_first : (o : Overload) (os : List Overload) (xs : List Operand) → ((i : Substitution) → IsSubstitution o i → AllFit (must_be_concrete xs) i (patterns_of o) xs → ⊥) →
    (r : Option (ℕ × Substitution)) → IsChosen os xs r → IsChosen (o ∷ os) xs (option_map later r)
not_first o os xs n None f = λ j us r ws h m. against j us r ws h.overload h.here h.candidate m
  where
    against : (j : ℕ) (us : List WgslType) (r : Option WgslType) (ws : List ℕ) (p : Overload) → slice_get (o ∷ os) j ≡ Some p → IsCandidateOf p us r → TakesOperands us xs ws → ⊥
    against zero us r ws p e h m =
        let q : o ≡ p = cc e in
        let t = taken o xs us r ws (subst (λ p. IsCandidateOf p us r) (sym q) h) m in
        n t.substitution t.admitted t.fits
    against (suc j) us r ws p e h m = f j us r ws (record { overload = p; here = e; candidate = h }) m
not_first o os xs n (Some q) f = (
  f.0,
  f.1,
  record {
    candidate = record { overload = f.2.candidate.overload; here = f.2.candidate.here; candidate = f.2.candidate.candidate };
    ranks = f.2.ranks;
    takes = f.2.takes;
    least = λ j vs s ws h m. against j vs s ws h.overload h.here h.candidate m;
  },
)
  where
    against : (j : ℕ) (vs : List WgslType) (s : Option WgslType) (ws : List ℕ) (p : Overload) → slice_get (o ∷ os) j ≡ Some p → IsCandidateOf p vs s → TakesOperands vs xs ws →
        (j ≡ suc q.0) × (vs ≡ parameters_for q.1 (patterns_of f.0) xs) × (s ≡ result_for q.1 f.0 xs) ⊎ IsNowhereMore f.2.ranks ws × IsSomewhereLess f.2.ranks ws
    against zero vs s ws p e h m =
        let q : o ≡ p = cc e in
        let t = taken o xs vs s ws (subst (λ p. IsCandidateOf p vs s) (sym q) h) m in
        absurd (n t.substitution t.admitted t.fits)
    against (suc j) vs s ws p e h m = elim (f.2.least j vs s ws (record { overload = p; here = e; candidate = h }) m) [
      | inl g ↦ inl (ap suc g.0, g.1, g.2)
      | inr g ↦ inr g
    ]

found_step : (o : Overload) (os : List Overload) (xs : List Operand) → AreInOrder (o ∷ os) → IsChosen os xs (first_of (must_be_concrete xs) os xs) → IsChosen (o ∷ os) xs (first_of (must_be_concrete xs) (o ∷ os) xs)
found_step o os xs h f = turn (substitution_of (must_be_concrete xs) o xs) (least_substitution (must_be_concrete xs) o xs)
  where
    turn : (r : Option Substitution) → LeastOr (must_be_concrete xs) o (patterns_of o) xs r → IsChosen (o ∷ os) xs (or_later r (first_of (must_be_concrete xs) os xs))
    turn None n = not_first o os xs n (first_of (must_be_concrete xs) os xs) f
    turn (Some i) l = first_found o os xs h.0 h.1 i l

found_in : (os : List Overload) (xs : List Operand) → AreInOrder os → IsChosen os xs (first_of (must_be_concrete xs) os xs)
found_in [] xs h = λ j us r ws k m. let e = k.here in absurd (cc e)
found_in (o ∷ os) xs h = found_step o os xs h (found_in os xs h.2)

pub found : (os : List Overload) (xs : List Operand) → IsUnambiguous os → IsChosen os xs (first_of (must_be_concrete xs) os xs)
found os xs h = found_in os xs h.in_order
