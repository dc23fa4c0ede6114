-- Functions of two or three arguments whose types are alike: their row returns the least candidate's result.
use Rattle.std.proofs.Common.{◌≡◌, ◌⊎◌, List, [], ◌∷◌, Option, None, Some, inl, inr, All, refl, sym, ap, subst, ◌∙◌, option_map}
use Rattle.wgsl_rules.proofs.Common.{WgslType, IsValueType, IsCommon, IsLeftCommon, inner_of, Name, IsOfThree, IsCandidate, Takes as TakenBy, Shape, Source, Row, Fits, IsSource, IsReturnType, given, IsAnswerOf, RefusedThoughTaken, IsChosenCall}
use Rattle.wgsl_syntax.specs.declared.call.Shape.TheVariants.{Any}
use Rattle.wgsl_syntax.specs.declared.call.Source.TheVariants.{Common, InnerOfCommon, CommonOfThree}
use Rattle.wgsl_syntax.specs.declared.call.ReturnType.TheVariants.{Of}
use Rattle.wgsl_syntax.specs.declared.call.Arguments.TheVariants.{Two, Three}
use Rattle.wgsl_syntax.specs.declared.call.Row.TheVariants.{Takes}
use Rattle.wgsl_rules.proofs.conversion.Order.{Above}
use Rattle.wgsl_rules.proofs.conversion.Commons.{values_head, values_tail}
use Rattle.wgsl_rules.proofs.operators.FamilyKinds.{Kind, Admits, outers}
use Rattle.wgsl_rules.proofs.operators.Forms.{pair_form, three, kind_of, form_of}
use Rattle.wgsl_rules.proofs.calls.Answered.{returned_common, one_row, two_taken, three_taken, left_of_three, are_above, Answer, its, Returned}
use Rattle.wgsl_rules.proofs.calls.ShapedKinds.{dec_refused, Shaped}

-- Functions of two arguments

abbrev pub pair_row : Shape → Source → Row
pair_row s from = Takes (Two s Any) (Of from)

pub pairs : (n : Name) (s : Shape) (k : Kind) (g : WgslType → WgslType) (sound : (c : WgslType) → Admits k c → IsCandidate n (c ∷ c ∷ []) (g c)) (from : Source) →
    ((a b : WgslType) (t : Option WgslType) → IsSource from (a ∷ b ∷ []) t → (u : Option WgslType) × IsCommon a b u × (t ≡ option_map g u)) →
    Shaped n s k → (ts : List WgslType) → All IsValueType ts → form_of n (outers ts) ≡ Some (pair_form n k g sound) → (a : Answer) →
    IsAnswerOf (pair_row s from ∷ []) (its n ts) a → IsChosenCall n (its n ts) a
pairs n s k g sound from source shaped ts v e a h =
    one_row n ts (pair_form n k g sound) (pair_row s from) a v e (dec_refused n ts) (unfit ts) (got ts v) down h
  where
    unfit : (ts : List WgslType) → RefusedThoughTaken n ts → ¬ Fits (pair_row s from) (its n ts)
    unfit [] x f = f.1
    unfit (b ∷ ts) x f = shaped.unfit b ts x f.1.0

    got : (ts : List WgslType) → All IsValueType ts → Fits (pair_row s from) (its n ts) → IsReturnType (Of from) (its n ts) a → Returned n ts (pair_form n k g sound) a
    got [] v f o = absurd f.1
    got (x ∷ []) v f o = absurd f.1.1
    got (x ∷ y ∷ []) v f o =
        let m = source x y o.0 o.1 in
        returned_common n (x ∷ y ∷ []) (pair_form n k g sound) a x y m.0 (values_head x (y ∷ []) v) (values_head y [] (values_tail x (y ∷ []) v))
        (y ∷ [], refl, ([], refl, refl)) m.1 (λ d h. shaped.up x d f.1.0 h) (o.2 ∙ ap (given (its n (x ∷ y ∷ []))) m.2)
    got (x ∷ y ∷ z ∷ ts) v f o = absurd f.1.1.1

    down : (c : WgslType) → Admits k c → TakenBy (c ∷ c ∷ []) ts → Fits (pair_row s from) (its n ts) ⊎ RefusedThoughTaken n ts
    down c i t =
        let m = two_taken ts c c v t in
        subst (λ ts. Fits (pair_row s from) (its n ts) ⊎ RefusedThoughTaken n ts) (sym m.is)
        (elim (shaped.down m.a c (m.b ∷ []) m.a_above i) [ inl x ↦ inl (refl, (x, (tt, tt))) | inr x ↦ inr x ])

pub same_option : {X : Type 0} (t : Option X) → t ≡ option_map (λ x. x) t
same_option None = refl
same_option (Some x) = refl

pub commons : (a b : WgslType) (t : Option WgslType) → IsSource Common (a ∷ b ∷ []) t → (u : Option WgslType) × IsCommon a b u × (t ≡ option_map (λ t. t) u)
commons a b t h = (t, h, same_option t)

pub inners : (a b : WgslType) (t : Option WgslType) → IsSource InnerOfCommon (a ∷ b ∷ []) t → (u : Option WgslType) × IsCommon a b u × (t ≡ option_map inner_of u)
inners a b t h = h

-- Functions of three arguments

abbrev pub triple_row : Shape → Row
triple_row s = Takes (Three s Any Any) (Of CommonOfThree)

pub returned_triple : (n : Name) (h : IsOfThree n) (x y z : WgslType) (a : Answer) → All IsValueType (x ∷ y ∷ z ∷ []) → ((d : WgslType) → Above x d → Admits (kind_of n) d) →
    IsReturnType (Of CommonOfThree) (its n (x ∷ y ∷ z ∷ [])) a → Returned n (x ∷ y ∷ z ∷ []) (three n h) a
returned_triple n h x y z a v up o =
    let k : IsLeftCommon (x ∷ y ∷ z ∷ []) o.0 = left_of_three x y z o.1.0 o.0 o.1.1 o.1.2 in
    record {
      types = x ∷ y ∷ z ∷ [];
      values = v;
      put = (y ∷ z ∷ [], refl, (z ∷ [], refl, ([], refl, refl)));
      common = o.0;
      is_common = k;
      admitted = λ b q. up b (are_above x y z b v (subst (λ u. IsLeftCommon (x ∷ y ∷ z ∷ []) u) q k)).first;
      answer = o.2 ∙ ap (given (its n (x ∷ y ∷ z ∷ []))) (same_option o.0);
    }

pub triples : (n : Name) (h : IsOfThree n) (s : Shape) → Shaped n s (kind_of n) → (ts : List WgslType) → All IsValueType ts → form_of n (outers ts) ≡ Some (three n h) → (a : Answer) →
    IsAnswerOf (triple_row s ∷ []) (its n ts) a → IsChosenCall n (its n ts) a
triples n h s shaped ts v e a k = one_row n ts (three n h) (triple_row s) a v e (dec_refused n ts) (unfit ts) (got ts v) down k
  where
    unfit : (ts : List WgslType) → RefusedThoughTaken n ts → ¬ Fits (triple_row s) (its n ts)
    unfit [] x f = f.1
    unfit (b ∷ ts) x f = shaped.unfit b ts x f.1.0

    got : (ts : List WgslType) → All IsValueType ts → Fits (triple_row s) (its n ts) → IsReturnType (Of CommonOfThree) (its n ts) a → Returned n ts (three n h) a
    got [] v f o = absurd f.1
    got (x ∷ []) v f o = absurd f.1.1
    got (x ∷ y ∷ []) v f o = absurd f.1.1.1
    got (x ∷ y ∷ z ∷ []) v f o = returned_triple n h x y z a v (λ d k. shaped.up x d f.1.0 k) o
    got (x ∷ y ∷ z ∷ w ∷ ts) v f o = absurd f.1.1.1.1

    down : (c : WgslType) → Admits (kind_of n) c → TakenBy (c ∷ c ∷ c ∷ []) ts → Fits (triple_row s) (its n ts) ⊎ RefusedThoughTaken n ts
    down c i t =
        let m = three_taken ts c c c v t in
        subst (λ ts. Fits (triple_row s) (its n ts) ⊎ RefusedThoughTaken n ts) (sym m.is)
        (elim (shaped.down m.a c (m.b ∷ m.c ∷ []) m.a_above i) [ inl x ↦ inl (refl, (x, (tt, (tt, tt)))) | inr x ↦ inr x ])
