-- `select`: its rows return the least candidate's result.
use Rattle.std.proofs.Common.{option_map, Option, Some, ◌≡◌, ℕ, List, [], ◌∷◌, inl, inr, All, refl, sym, ap, subst, ◌∙◌}
use Rattle.wgsl_rules.proofs.Common.{Bool, vec_of, WgslType, scalar, within, vec, IsVector, ConvertsTo, IsValueType, select, IsCandidate, of_two, of_three, either, each_either, mixed, Takes as TakenBy, Row, IsScalarOf, IsVectorOf, Fits, IsReturnType, given, IsAnswerOf, RefusedThoughTaken, IsChosenCall}
use Rattle.wgsl_syntax.specs.declared.call.ScalarKind.TheVariants.{Boolean}
use Rattle.wgsl_syntax.specs.declared.call.Shape.TheVariants.{Any, ScalarOf, VectorOf, Vector, ScalarOrVector}
use Rattle.wgsl_syntax.specs.declared.call.Source.TheVariants.{Common}
use Rattle.wgsl_syntax.specs.declared.call.ReturnType.TheVariants.{Of}
use Rattle.wgsl_syntax.specs.declared.call.Arguments.TheVariants.{Three}
use Rattle.wgsl_syntax.specs.declared.call.Row.TheVariants.{Takes}
use Rattle.wgsl_rules.proofs.conversion.Order.{Above, here, above_to_within, above_converts}
use Rattle.wgsl_rules.proofs.conversion.Commons.{values_head, values_tail}
use Rattle.wgsl_rules.proofs.operators.Families.{IsPut}
use Rattle.wgsl_rules.proofs.operators.FamilyKinds.{outers, any_type, vector_of, scalar_or_vector, Admits, above_admits, above_admitted}
use Rattle.wgsl_rules.proofs.operators.Forms.{Form, form_of, either_form, each_form}
use Rattle.wgsl_rules.proofs.operators.ChosenRows.{bool_above}
use Rattle.wgsl_rules.proofs.calls.Answered.{returned_common, returned_is_chosen, refused_is_chosen, three_taken, Answer, its}
use Rattle.wgsl_rules.proofs.calls.ChosenFamilies.{same_option}

-- `select`, which has two rows

abbrev pub by_one : Row
by_one = Takes (Three ScalarOrVector Any (ScalarOf Boolean)) (Of Common)

abbrev pub by_each : Row
by_each = Takes (Three Vector Any (VectorOf Boolean)) (Of Common)

is_bool : (t : WgslType) → IsScalarOf Boolean t → t ≡ scalar Bool
is_bool (scalar Bool) h = refl
is_bool t h = absurd h

bool_vector : (t : WgslType) → IsVectorOf Boolean t → (n : ℕ) × (t ≡ vec n (scalar Bool))
bool_vector (within (vec_of n) t) h = (n, ap (λ u. vec n u) (is_bool t h))
bool_vector t h = absurd h

-- either row: the common type of the first two arguments
common_of_two : (x y z : WgslType) (f : Form select) (a : Answer) → All IsValueType (x ∷ y ∷ z ∷ []) → form_of select (outers (x ∷ y ∷ z ∷ [])) ≡ Some f → IsPut f.slots (x ∷ y ∷ z ∷ []) (x ∷ y ∷ []) →
    ((d : WgslType) → Above x d → Admits f.kind d) → ((t : Option WgslType) → t ≡ option_map f.gives t) → IsReturnType (Of Common) (its select (x ∷ y ∷ z ∷ [])) a →
    IsChosenCall select (its select (x ∷ y ∷ z ∷ [])) a
common_of_two x y z f a v e put up same o =
    let ts = x ∷ y ∷ z ∷ [] in
    let vx = values_head x (y ∷ z ∷ []) v in
    let vy = values_head y (z ∷ []) (values_tail x (y ∷ z ∷ []) v) in
    returned_is_chosen select ts f a v e (λ r. r) (returned_common select ts f a x y o.0 vx vy put o.1 up (o.2 ∙ ap (given (its select ts)) (same o.0)))

one_of_two : (ts : List WgslType) → All IsValueType ts → (a : Answer) → Fits by_one (its select ts) → IsReturnType (Of Common) (its select ts) a → IsChosenCall select (its select ts) a
one_of_two [] v a f o = absurd f.1
one_of_two (x ∷ []) v a f o = absurd f.1.1
one_of_two (x ∷ y ∷ []) v a f o = absurd f.1.1.1
one_of_two (x ∷ y ∷ z ∷ []) v a f o =
    let ts = x ∷ y ∷ z ∷ [] in
    let e : z ≡ scalar Bool = is_bool z f.1.1.1.0 in
    let form : form_of select (outers ts) ≡ Some either_form = ap (λ z. form_of select (outers (x ∷ y ∷ z ∷ []))) e in
    common_of_two x y z either_form a v form (y ∷ [], refl, ([], refl, (subst (λ z. ConvertsTo z (scalar Bool)) (sym e) (above_converts here), refl)))
    (λ d h. above_admitted h scalar_or_vector tt f.1.0) same_option o
one_of_two (x ∷ y ∷ z ∷ w ∷ ts) v a f o = absurd f.1.1.1.1

vector_admitted : (t : WgslType) → IsVector t → Admits (vector_of any_type) t
vector_admitted (within (vec_of n) e) h = tt
vector_admitted t h = absurd h

each_of_two : (ts : List WgslType) → All IsValueType ts → (a : Answer) → Fits by_each (its select ts) → IsReturnType (Of Common) (its select ts) a → IsChosenCall select (its select ts) a
each_of_two [] v a f o = absurd f.1
each_of_two (x ∷ []) v a f o = absurd f.1.1
each_of_two (x ∷ y ∷ []) v a f o = absurd f.1.1.1
each_of_two (x ∷ y ∷ z ∷ []) v a f o =
    let ts = x ∷ y ∷ z ∷ [] in
    let p = bool_vector z f.1.1.1.0 in
    let form : form_of select (outers ts) ≡ Some (each_form p.0) = ap (λ z. form_of select (outers (x ∷ y ∷ z ∷ []))) p.1 in
    let converts = subst (λ z. ConvertsTo z (vec p.0 (scalar Bool))) (sym p.1) (above_converts here) in
    common_of_two x y z (each_form p.0) a v form (y ∷ [], refl, ([], refl, (converts, refl)))
    (λ d h. above_admitted h (vector_of any_type) tt (vector_admitted x f.1.0)) same_option o
each_of_two (x ∷ y ∷ z ∷ w ∷ ts) v a f o = absurd f.1.1.1.1

vector_shape_of : (t : WgslType) (n : ℕ) (e : WgslType) → Above t (vec n e) → IsVector t
vector_shape_of t n e k = let x = above_to_within k (vec_of n) e refl in subst IsVector (sym x.1) tt

pub select_answer : (ts : List WgslType) → All IsValueType ts → (a : Answer) → IsAnswerOf (by_one ∷ by_each ∷ []) (its select ts) a → IsChosenCall select (its select ts) a
select_answer ts v a (inl k) = one_of_two ts v a k.0 k.1
select_answer ts v a (inr (n, inl k)) = each_of_two ts v a k.0 k.1
select_answer ts v a (inr (n, inr k)) = refused_is_chosen select ts a (no (λ r. r)) down k.1
  where
    down : (us : List WgslType) (r : WgslType) → IsCandidate select us r → TakenBy us ts → RefusedThoughTaken select ts
    down us r (either u i) t =
        let m = three_taken ts u u (scalar Bool) v t in
        n (subst (λ ts. Fits by_one (its select ts)) (sym m.is)
        (refl, (above_admits m.a_above scalar_or_vector tt i, (tt, (subst (λ c. IsScalarOf Boolean c) (sym (bool_above m.c_above)) tt, tt)))))
    down us r (each_either l j e) t =
        let m = three_taken ts (vec l e) (vec l e) (vec j (scalar Bool)) v t in
        let x = above_to_within m.c_above (vec_of j) (scalar Bool) refl in
        k.0 (subst (λ ts. Fits by_each (its select ts)) (sym m.is)
        (refl, (vector_shape_of m.a l e m.a_above, (tt, (subst (λ c. IsVectorOf Boolean c) (sym (x.1 ∙ ap (λ t. vec j t) (bool_above x.2))) tt, tt)))))
    down us r (of_two j h u i) t = absurd h
    down us r (of_three j h u i) t = absurd h
    down us r (mixed j h l s i) t = absurd h
