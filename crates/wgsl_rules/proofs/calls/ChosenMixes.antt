-- `mix` and `refract`: their rows return the least candidate's result.
use Rattle.std.proofs.Common.{◌≡◌, ℕ, ◌⊎◌, List, [], ◌∷◌, Option, None, Some, Err, inl, inr, All, refl, sym, ap, subst, subst₂, ◌∙◌, option_map, option_and_then}
use Rattle.wgsl_rules.proofs.Common.{All-cons, Scalar, AbstractInt, vec_of, WgslType, scalar, within, vec, IsFloat, IsVector, IsAbstractIntOrVector, IsValueType, IsLeftCommon, Name, mix, refract, IsMixed, IsCandidate, of_two, of_three, mixed, Takes as TakenBy, Receives, signature, Row, IsScalarOf, Fits, HaveEqualLengths, IsReturnType, vector_like, given, IsAnswerOf, RefusedThoughTaken, IsChosenCall}
use Rattle.wgsl_syntax.specs.declared.call.ScalarKind.TheVariants.{Float}
use Rattle.wgsl_syntax.specs.declared.call.Shape.TheVariants.{ScalarOf, ScalarOrVectorOf, Vector}
use Rattle.wgsl_syntax.specs.declared.call.Condition.TheVariants.{EqualLengths}
use Rattle.wgsl_syntax.specs.declared.call.Source.TheVariants.{CommonOfThree, CommonOfInner}
use Rattle.wgsl_syntax.specs.declared.call.ReturnType.TheVariants.{Of, AsLong}
use Rattle.wgsl_syntax.specs.declared.call.Arguments.TheVariants.{Three}
use Rattle.wgsl_syntax.specs.declared.call.Row.TheVariants.{TakesWhere}
use Rattle.wgsl_rules.proofs.conversion.Order.{above_to_within, above_converts}
use Rattle.wgsl_rules.proofs.conversion.Commons.{receives_nil, receives_cons, values_head, values_tail, left_common_none}
use Rattle.wgsl_rules.proofs.operators.FamilyKinds.{any_scalar, a_float, or_vector, Admits, above_admits, above_admitted, as_scalar, float_above, plain, layer, outers, above_outer}
use Rattle.wgsl_rules.proofs.operators.Forms.{three, admitted_for, mixed_form, form_of}
use Rattle.wgsl_rules.proofs.operators.Choices.{mixed_known}
use Rattle.wgsl_rules.proofs.operators.ChosenRows.{two_values}
use Rattle.wgsl_rules.proofs.calls.Answered.{returned_is_chosen, refused_is_chosen, head_taken, three_taken, left_of_three, are_above, Answer, its, Returned, AreAbove}
use Rattle.wgsl_rules.proofs.calls.ShapedKinds.{float_shape, float_scalar, no_int_float, float_or_vector_above, dec_refused}
use Rattle.wgsl_rules.proofs.calls.ChosenFamilies.{returned_triple, triple_row}

-- Functions of two vectors and a scalar

abbrev pub mixed_row : Row
mixed_row = TakesWhere (Three Vector Vector (ScalarOf Float)) EqualLengths (AsLong CommonOfInner)

is_vector : (t : WgslType) → IsVector t → (n : ℕ) × (e : WgslType) × (t ≡ vec n e)
is_vector (within (vec_of n) e) h = (n, e, refl)
is_vector t h = absurd h

is_float : (t : WgslType) → IsScalarOf Float t → (s : Scalar) × (t ≡ scalar s) × IsFloat s
is_float (scalar s) h = (s, refl, h)
is_float t h = absurd h

mixed_got : (n : Name) (h : IsMixed n) (k : ℕ) (e f : WgslType) (s : Scalar) → IsFloat s → (a : Answer) → All IsValueType (vec k e ∷ vec k f ∷ scalar s ∷ []) →
    IsReturnType (AsLong CommonOfInner) (its n (vec k e ∷ vec k f ∷ scalar s ∷ [])) a → Returned n (vec k e ∷ vec k f ∷ scalar s ∷ []) (mixed_form n h k) a
mixed_got n h k e f s i a v o =
    let ve : IsValueType e = values_head (vec k e) (vec k f ∷ scalar s ∷ []) v in
    let vf : IsValueType f = values_head (vec k f) (scalar s ∷ []) (values_tail (vec k e) (vec k f ∷ scalar s ∷ []) v) in
    let ves = three_values e f (scalar s) ve vf tt in
    let m : IsLeftCommon (e ∷ f ∷ scalar s ∷ []) o.0 = left_of_three e f (scalar s) o.1.0 o.0 o.1.1 o.1.2 in
    record {
      types = e ∷ f ∷ scalar s ∷ [];
      values = ves;
      put = (e, f ∷ scalar s ∷ [], refl, refl, (f, scalar s ∷ [], refl, refl, ([], refl, refl)));
      common = o.0;
      is_common = m;
      admitted = λ b q. above_admitted (are_above e f (scalar s) b ves (subst (λ u. IsLeftCommon (e ∷ f ∷ scalar s ∷ []) u) q m)).third a_float tt i;
      answer = o.2 ∙ ap (given (its n (vec k e ∷ vec k f ∷ scalar s ∷ []))) (as_long o.0);
    }
  where
    three_values : (a b c : WgslType) → IsValueType a → IsValueType b → IsValueType c → All IsValueType (a ∷ b ∷ c ∷ [])
    three_values a b c va vb vc = All-cons IsValueType a (b ∷ c ∷ []) va (two_values b c vb vc)

    as_long : (t : Option WgslType) → option_and_then (vector_like (vec k e)) t ≡ option_map (λ t. vec k t) t
    as_long None = refl
    as_long (Some t) = refl

float_no_refusal : (n : Name) → IsMixed n → (k : ℕ) (e b : WgslType) (s : Scalar) → IsFloat s → ¬ RefusedThoughTaken n (vec k e ∷ b ∷ scalar s ∷ [])
float_no_refusal mix h k e b AbstractInt i r = i
float_no_refusal mix h k e b s i r = r
float_no_refusal refract h k e b AbstractInt i r = i
float_no_refusal refract h k e b s i r = r
float_no_refusal n h k e b s i r = h

int_refusal : (n : Name) → IsMixed n → (k : ℕ) (e b : WgslType) → RefusedThoughTaken n (vec k e ∷ b ∷ scalar AbstractInt ∷ [])
int_refusal mix h k e b = tt
int_refusal refract h k e b = tt
int_refusal n h k e b = absurd h

mixed_fits : (n : Name) → IsMixed n → (ts : List WgslType) → All IsValueType ts → (a : Answer) → Fits mixed_row (its n ts) → IsReturnType (AsLong CommonOfInner) (its n ts) a →
    IsChosenCall n (its n ts) a
mixed_fits n h [] v a f o = absurd f.1
mixed_fits n h (x ∷ []) v a f o = absurd f.1.1
mixed_fits n h (x ∷ y ∷ []) v a f o = absurd f.1.1.1
mixed_fits n h (x ∷ y ∷ z ∷ []) v a f o =
    let p = is_vector x f.1.0 in
    let q = is_vector y f.1.1.0 in
    let r = is_float z f.1.1.1.0 in
    let l : p.0 ≡ q.0 = subst₂ (λ x y. HaveEqualLengths x y) p.2 q.2 f.2 in
    let is : x ∷ y ∷ z ∷ [] ≡ vec p.0 p.1 ∷ vec p.0 q.1 ∷ scalar r.0 ∷ [] = cc (p.2, q.2, r.1, l) in
    let v' = subst (λ ts. All IsValueType ts) is v in
    let o' = subst (λ ts. IsReturnType (AsLong CommonOfInner) (its n ts) a) is o in
    subst (λ ts. IsChosenCall n (its n ts) a) (sym is)
    (returned_is_chosen n (vec p.0 p.1 ∷ vec p.0 q.1 ∷ scalar r.0 ∷ []) (mixed_form n h p.0) a v' (mixed_known n h p.0 p.0)
    (float_no_refusal n h p.0 p.1 (vec p.0 q.1) r.0 r.2) (mixed_got n h p.0 p.1 q.1 r.0 r.2 a v' o'))
mixed_fits n h (x ∷ y ∷ z ∷ w ∷ ts) v a f o = absurd f.1.1.1.1

mixed_down : (n : Name) → IsMixed n → (k : ℕ) (s : Scalar) → IsFloat s → (ts : List WgslType) → All IsValueType ts → TakenBy (vec k (scalar s) ∷ vec k (scalar s) ∷ scalar s ∷ []) ts →
    Fits mixed_row (its n ts) ⊎ RefusedThoughTaken n ts
mixed_down n h k s i ts v t =
    let m = three_taken ts (vec k (scalar s)) (vec k (scalar s)) (scalar s) v t in
    let x = above_to_within m.a_above (vec_of k) (scalar s) refl in
    let y = above_to_within m.b_above (vec_of k) (scalar s) refl in
    let is : ts ≡ vec k x.0 ∷ vec k y.0 ∷ m.c ∷ [] = cc (m.is, x.1, y.1) in
    subst (λ ts. Fits mixed_row (its n ts) ⊎ RefusedThoughTaken n ts) (sym is)
    (elim (float_above m.c_above i) [
      | inl c ↦ inl (refl, (tt, (tt, (float_scalar m.c c, tt))), refl)
      | inr e ↦ inr (subst (λ c. RefusedThoughTaken n (vec k x.0 ∷ vec k y.0 ∷ c ∷ [])) (sym e.0) (int_refusal n h k x.0 (vec k y.0)))
    ])

pub refract_answer : (ts : List WgslType) → All IsValueType ts → (a : Answer) → IsAnswerOf (mixed_row ∷ []) (its refract ts) a → IsChosenCall refract (its refract ts) a
refract_answer ts v a (inl k) = mixed_fits refract tt ts v a k.0 k.1
refract_answer ts v a (inr k) = refused_is_chosen refract ts a (dec_refused refract ts) down k.1
  where
    down : (us : List WgslType) (r : WgslType) → IsCandidate refract us r → TakenBy us ts → RefusedThoughTaken refract ts
    down us r (mixed j h l s i) t = elim (mixed_down refract tt l s i ts v t) [ inl f ↦ absurd (k.0 f) | inr x ↦ x ]
    down us r (of_two j h u i) t = absurd h
    down us r (of_three j h u i) t = absurd h

-- `mix`, which has the row of `refract` and one of three arguments

abbrev pub mix_row : Row
mix_row = triple_row (ScalarOrVectorOf Float)

abbrev pub has_mix_form : List WgslType → Type 0
has_mix_form ts = form_of mix (outers ts) ≡ Some (three mix tt)

-- three types that convert to a float or a vector of floats
mix_form : (x y z d : WgslType) → AreAbove x y z d → Admits (or_vector a_float) d → has_mix_form (x ∷ y ∷ z ∷ [])
mix_form x y z (scalar s) m i =
    let os : outers (x ∷ y ∷ z ∷ []) ≡ plain ∷ plain ∷ plain ∷ [] = cc (above_outer m.first, above_outer m.second, above_outer m.third) in
    ap (λ os. form_of mix os) os ∙ refl
mix_form x y z (within (vec_of n) e) m i =
    let os : outers (x ∷ y ∷ z ∷ []) ≡ layer (vec_of n) ∷ layer (vec_of n) ∷ layer (vec_of n) ∷ [] = cc (above_outer m.first, above_outer m.second, above_outer m.third) in
    ap (λ os. form_of mix os) os ∙ refl
mix_form x y z d m i = absurd i

-- such a call is one of `RefusedThoughTaken` exactly if its first argument is too abstract
mix_first : (x y z d : WgslType) → AreAbove x y z d → Admits (or_vector a_float) d → RefusedThoughTaken mix (x ∷ y ∷ z ∷ []) → IsAbstractIntOrVector x
mix_first x y z (scalar s) m i r =
    let p = as_scalar x (above_admits m.first any_scalar tt tt) in
    subst IsAbstractIntOrVector (sym p.1) (subst (λ x. RefusedThoughTaken mix (x ∷ y ∷ z ∷ [])) p.1 r)
mix_first x y z (within (vec_of n) e) m i r =
    let p = above_to_within m.third (vec_of n) e refl in
    first x y n p.0 (subst (λ z. RefusedThoughTaken mix (x ∷ y ∷ z ∷ [])) p.1 r)
  where
    first : (x y : WgslType) (n : ℕ) (f : WgslType) → RefusedThoughTaken mix (x ∷ y ∷ vec n f ∷ []) → IsAbstractIntOrVector x
    first (within (vec_of m) e) y n f r = r
    first x y n f r = r
mix_first x y z d m i r = absurd i

first_mix : (x y z d : WgslType) → AreAbove x y z d → Admits (or_vector a_float) d → IsAbstractIntOrVector x → RefusedThoughTaken mix (x ∷ y ∷ z ∷ [])
first_mix x y z (scalar s) m i r =
    let p = as_scalar x (above_admits m.first any_scalar tt tt) in
    subst (λ x. RefusedThoughTaken mix (x ∷ y ∷ z ∷ [])) (sym p.1) (subst IsAbstractIntOrVector p.1 r)
first_mix x y z (within (vec_of n) e) m i r =
    let p = above_to_within m.third (vec_of n) e refl in
    subst (λ z. RefusedThoughTaken mix (x ∷ y ∷ z ∷ [])) (sym p.1) (first x y n p.0 r)
  where
    first : (x y : WgslType) (n : ℕ) (f : WgslType) → IsAbstractIntOrVector x → RefusedThoughTaken mix (x ∷ y ∷ vec n f ∷ [])
    first (within (vec_of m) e) y n f r = r
    first x y n f r = r
first_mix x y z d m i r = absurd i

-- the second row takes the operands that candidates of three types take
mix_down : (c : WgslType) → Admits (or_vector a_float) c → (ts : List WgslType) → All IsValueType ts → TakenBy (c ∷ c ∷ c ∷ []) ts → Fits mix_row (its mix ts) ⊎ RefusedThoughTaken mix ts
mix_down c i ts v t =
    let m = three_taken ts c c c v t in
    let k : AreAbove m.a m.b m.c c = record { first = m.a_above; second = m.b_above; third = m.c_above } in
    subst (λ ts. Fits mix_row (its mix ts) ⊎ RefusedThoughTaken mix ts) (sym m.is)
    (elim (float_or_vector_above m.a c m.a_above i) [ inl x ↦ inl (refl, (x, (tt, (tt, tt)))) | inr x ↦ inr (first_mix m.a m.b m.c c k i x) ])

no_common_taken : (x y z c : WgslType) → All IsValueType (x ∷ y ∷ z ∷ []) → TakenBy (c ∷ c ∷ c ∷ []) (x ∷ y ∷ z ∷ []) → IsLeftCommon (x ∷ y ∷ z ∷ []) None → ⊥
no_common_taken x y z c v t k =
    let p = head_taken (x ∷ y ∷ z ∷ []) c (c ∷ c ∷ []) t.0 v t.1 in
    let m = three_taken (x ∷ y ∷ z ∷ []) c c c v t in
    let e : m.a ∷ m.b ∷ m.c ∷ [] ≡ x ∷ y ∷ z ∷ [] = sym m.is in
    let g = receives_cons c m.a (m.b ∷ m.c ∷ []) (above_converts m.a_above)
    (receives_cons c m.b (m.c ∷ []) (above_converts m.b_above) (receives_cons c m.c [] (above_converts m.c_above) (receives_nil c))) in
    left_common_none x (y ∷ z ∷ []) v k c (subst (λ ts. Receives c ts) e g)

pub mix_answer : (ts : List WgslType) → All IsValueType ts → (a : Answer) → IsAnswerOf (mixed_row ∷ mix_row ∷ []) (its mix ts) a → IsChosenCall mix (its mix ts) a
mix_answer ts v a (inl k) = mixed_fits mix tt ts v a k.0 k.1
mix_answer ts v a (inr (n, inl k)) = got ts v n k.0 k.1
  where
    given_none : (ts : List WgslType) (t : Option WgslType) → t ≡ None → a ≡ given (its mix ts) t → a ≡ Err (signature (its mix ts))
    given_none ts t e q = q ∙ ap (given (its mix ts)) e

    at_common : (x y z : WgslType) (t : Option WgslType) → All IsValueType (x ∷ y ∷ z ∷ []) → ¬ Fits mixed_row (its mix (x ∷ y ∷ z ∷ [])) → Fits mix_row (its mix (x ∷ y ∷ z ∷ [])) →
        IsReturnType (Of CommonOfThree) (its mix (x ∷ y ∷ z ∷ [])) a → IsLeftCommon (x ∷ y ∷ z ∷ []) t → a ≡ given (its mix (x ∷ y ∷ z ∷ [])) t → IsChosenCall mix (its mix (x ∷ y ∷ z ∷ [])) a
    at_common x y z (Some d) v n f o k q =
        let m = are_above x y z d v k in
        let i = above_admitted m.first (or_vector a_float) tt (float_shape x f.1.0) in
        returned_is_chosen mix (x ∷ y ∷ z ∷ []) (three mix tt) a v (mix_form x y z d m i) (λ r. no_int_float x (mix_first x y z d m i r) f.1.0)
        (returned_triple mix tt x y z a v (λ c k. above_admitted k (or_vector a_float) tt (float_shape x f.1.0)) o)
    at_common x y z None v n f o k q = refused_is_chosen mix (x ∷ y ∷ z ∷ []) a (dec_refused mix (x ∷ y ∷ z ∷ [])) down q
      where
        down : (us : List WgslType) (r : WgslType) → IsCandidate mix us r → TakenBy us (x ∷ y ∷ z ∷ []) → RefusedThoughTaken mix (x ∷ y ∷ z ∷ [])
        down us r (mixed j h l s i) t = elim (mixed_down mix tt l s i (x ∷ y ∷ z ∷ []) v t) [ inl f ↦ absurd (n f) | inr x ↦ x ]
        down us r (of_three j h u i) t = absurd (no_common_taken x y z u v t k)
        down us r (of_two j h u i) t = absurd h

    got : (ts : List WgslType) → All IsValueType ts → ¬ Fits mixed_row (its mix ts) → Fits mix_row (its mix ts) → IsReturnType (Of CommonOfThree) (its mix ts) a → IsChosenCall mix (its mix ts) a
    got [] v n f o = absurd f.1
    got (x ∷ []) v n f o = absurd f.1.1
    got (x ∷ y ∷ []) v n f o = absurd f.1.1.1
    got (x ∷ y ∷ z ∷ []) v n f o = at_common x y z o.0 v n f o (left_of_three x y z o.1.0 o.0 o.1.1 o.1.2) o.2
    got (x ∷ y ∷ z ∷ w ∷ ts) v n f o = absurd f.1.1.1.1
mix_answer ts v a (inr (n, inr k)) = refused_is_chosen mix ts a (dec_refused mix ts) down k.1
  where
    down : (us : List WgslType) (r : WgslType) → IsCandidate mix us r → TakenBy us ts → RefusedThoughTaken mix ts
    down us r (mixed j h l s i) t = elim (mixed_down mix tt l s i ts v t) [ inl f ↦ absurd (n f) | inr x ↦ x ]
    down us r (of_three j h u i) t = elim (mix_down u (admitted_for mix u i) ts v t) [ inl f ↦ absurd (k.0 f) | inr x ↦ x ]
    down us r (of_two j h u i) t = absurd h
