-- The answer of a call, from what is chosen.
use Rattle.std.proofs.Common.{◌≡◌, ℕ, List, Option, Some, None, refl, sym, ◌∙◌, ap, subst, slice_get, slice_index_or}
use Rattle.wgsl_standard.proofs.Common.{get_or_from_slice_get, Overload, Substitution, WgslType, patterns_of, Operand, IsPreferred, NoneTakes, parameters_for, result_for, IsChosen, IsUnambiguous, first_of, must_be_concrete}
use Rattle.wgsl_rules.specs.standard.Answers.{IsStandardAnswer}
use Rattle.wgsl_standard.proofs.Choices.{found}
use Rattle.wgsl_standard.proofs.OneChoice.{chosen_once}

-- the result of a preferred candidate is the answer
pub answer_of : (os : List Overload) (xs : List Operand) (at : ℕ) (us : List WgslType) (r : Option WgslType) → IsPreferred os xs at us r → IsStandardAnswer os xs (Some r)
answer_of os xs at us r q = record {
  least = λ t. (
    λ h. let k : r ≡ t = cc h in (at, us, subst (λ t. IsPreferred os xs at us t) k q),
    λ h. ap Some (chosen_once os xs at h.0 us h.1 r t q h.2).2,
  );
  none = (
    λ h. absurd (cc h),
    λ n. absurd (n at us r q.ranks q.candidate q.takes),
  );
}

pub answer_some : (os : List Overload) (xs : List Operand) (p : ℕ × Substitution) (o : Overload) → slice_get os p.0 ≡ Some o → IsChosen os xs (Some p) →
    IsStandardAnswer os xs (Some (result_for p.1 o xs))
answer_some os xs p o e c =
    let s : Some c.0 ≡ Some o = sym c.1 ∙ e in
    let w : c.0 ≡ o = cc s in
    let q : IsPreferred os xs p.0 (parameters_for p.1 (patterns_of o) xs) (result_for p.1 o xs) =
    subst (λ o. IsPreferred os xs p.0 (parameters_for p.1 (patterns_of o) xs) (result_for p.1 o xs)) w c.2 in
    answer_of os xs p.0 (parameters_for p.1 (patterns_of o) xs) (result_for p.1 o xs) q

pub answer_none : (os : List Overload) (xs : List Operand) → NoneTakes os xs → IsStandardAnswer os xs None
answer_none os xs n = record {
  least = λ t. (λ h. absurd (cc h), λ h. absurd (n h.0 h.1 t h.2.ranks h.2.candidate h.2.takes));
  none = (λ h. n, λ h. refl);
}

pub answer_at : (os : List Overload) (xs : List Operand) (p : ℕ × Substitution) (d : Overload) (o : Overload) → IsChosen os xs (Some p) → o ≡ slice_index_or os p.0 d →
    IsStandardAnswer os xs (Some (result_for p.1 o xs))
answer_at os xs p d o c e =
    subst (λ o. IsStandardAnswer os xs (Some (result_for p.1 o xs))) (sym (e ∙ get_or_from_slice_get os p.0 c.0 d c.1)) (answer_some os xs p c.0 c.1 c)

pub an_answer : (os : List Overload) (xs : List Operand) → IsUnambiguous os → (r : Option (Option WgslType)) × IsStandardAnswer os xs r
an_answer os xs u = turn (first_of (must_be_concrete xs) os xs) (found os xs u)
  where
    turn : (c : Option (ℕ × Substitution)) → IsChosen os xs c → (r : Option (Option WgslType)) × IsStandardAnswer os xs r
    turn (Some p) c = (_, answer_some os xs p c.0 c.1 c)
    turn None c = (None, answer_none os xs c)

pub answer_once : (os : List Overload) (xs : List Operand) (r s : Option (Option WgslType)) → IsStandardAnswer os xs r → IsStandardAnswer os xs s → r ≡ s
answer_once os xs (Some t) s f g = sym ((g.least t).1 ((f.least t).0 refl))
answer_once os xs None s f g = sym (g.none.1 (f.none.0 refl))
