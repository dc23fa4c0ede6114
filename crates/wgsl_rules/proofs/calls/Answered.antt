-- A call is answered as the choice says if its row returns what a family gives, or if no candidate takes the arguments.
use Rattle.std.proofs.Common.{◌≡◌, ℕ, ◌⊎◌, List, [], ◌∷◌, Option, None, Some, Result, Err, inl, inr, All, refl, sym, subst, option_map}
use Rattle.wgsl_rules.proofs.Common.{WgslType, IsValueType, ConvertsTo, IsCommon, IsCommonWith, IsLeftCommon, of_last_member, Name, IsCandidate, HasRanks, Takes as TakenBy, Signature, Refusal, signature, Row, return_type_of, Fits, IsReturnType, IsCommonOf, given, IsAnswerOf, name_of, RefusedThoughTaken, IsChosenCall}
use Rattle.wgsl_rules.proofs.conversion.Folds.{left_of_two}
use Rattle.wgsl_rules.proofs.conversion.Order.{Above, value_converts}
use Rattle.wgsl_rules.proofs.conversion.Commons.{common_join, value_above, receives_head, receives_tail, values_head, values_tail, left_common_least}
use Rattle.wgsl_rules.proofs.operators.Families.{fill_all, IsPut}
use Rattle.wgsl_rules.proofs.operators.FamilyKinds.{Admits, outers}
use Rattle.wgsl_rules.proofs.operators.Forms.{Form, form_of}
use Rattle.wgsl_rules.proofs.operators.ChosenRows.{two_values}
use Rattle.wgsl_rules.proofs.operators.Choices.{belongs, of_row, row_choice, row_no_common, chosen_answer, refused_answer}

abbrev pub Answer : Type 0
Answer = Result (Option WgslType) Refusal

-- a call of a function without a template
abbrev pub its : Name → List WgslType → Signature
its n ts = record { name = name_of n; template = None; arguments = ts }

-- A row that takes a call returns what its family gives at the common type; without one it refuses the call.
pub record Returned (n : Name) (ts : List WgslType) (f : Form n) (a : Answer) : Type 0 where
  pub types : List WgslType
  pub values : All IsValueType types
  pub put : IsPut f.slots ts types
  pub common : Option WgslType
  pub is_common : IsLeftCommon types common
  pub admitted : (b : WgslType) → common ≡ Some b → Admits f.kind b
  pub answer : a ≡ given (its n ts) (option_map f.gives common)

-- a row that returns what its family gives at the common type of the first two arguments
pub returned_common : (n : Name) (ts : List WgslType) (f : Form n) (a : Answer) (x y : WgslType) (t : Option WgslType) → IsValueType x → IsValueType y →
    IsPut f.slots ts (x ∷ y ∷ []) → IsCommon x y t → ((d : WgslType) → Above x d → Admits f.kind d) → a ≡ given (its n ts) (option_map f.gives t) → Returned n ts f a
returned_common n ts f a x y t vx vy put m up q = record {
  types = x ∷ y ∷ [];
  values = two_values x y vx vy;
  put = put;
  common = t;
  is_common = left_of_two x y t m;
  admitted = λ b e. up b (common_join x y b vx vy (subst (λ u. IsCommon x y u) e m)).left;
  answer = q;
}

pub returned_is_chosen : (n : Name) (ts : List WgslType) (f : Form n) (a : Answer) → All IsValueType ts → form_of n (outers ts) ≡ Some f → ¬ RefusedThoughTaken n ts →
    Returned n ts f a → IsChosenCall n (its n ts) a
returned_is_chosen n ts f a v e r m = go m.common m.is_common m.admitted m.answer
  where
    go : (c : Option WgslType) → IsLeftCommon m.types c → ((b : WgslType) → c ≡ Some b → Admits f.kind b) → a ≡ given (its n ts) (option_map f.gives c) → IsChosenCall n (its n ts) a
    go None k h q =
        subst (λ a. IsChosenCall n (its n ts) a) (sym q) (refl, inl (refused_answer (row_no_common n ts m.types f v m.values e m.put k)))
    go (Some b) k h q =
        subst (λ a. IsChosenCall n (its n ts) a) (sym q) (chosen_answer (row_choice n ts m.types f b v m.values e m.put k (h b refl)), r)

-- A call is refused as asked if each candidate that takes it makes it one of `RefusedThoughTaken`.
pub refused_is_chosen : (n : Name) (ts : List WgslType) (a : Answer) → Dec (RefusedThoughTaken n ts) →
    ((us : List WgslType) (r : WgslType) → IsCandidate n us r → TakenBy us ts → RefusedThoughTaken n ts) → a ≡ Err (signature (its n ts)) → IsChosenCall n (its n ts) a
refused_is_chosen n ts a d f q =
    subst (λ a. IsChosenCall n (its n ts) a) (sym q)
    (elim d [ yes r ↦ (refl, inr r) | no r ↦ (refl, inl (refused_answer (λ us t k h. r (f us t k h)))) ])

-- functions with one row and one family
pub one_row : (n : Name) (ts : List WgslType) (f : Form n) (r : Row) (a : Answer) → All IsValueType ts → form_of n (outers ts) ≡ Some f → Dec (RefusedThoughTaken n ts) →
    (RefusedThoughTaken n ts → ¬ Fits r (its n ts)) →
    (Fits r (its n ts) → IsReturnType (return_type_of r) (its n ts) a → Returned n ts f a) →
    ((c : WgslType) → Admits f.kind c → TakenBy (fill_all f.slots c) ts → Fits r (its n ts) ⊎ RefusedThoughTaken n ts) →
    IsAnswerOf (r ∷ []) (its n ts) a → IsChosenCall n (its n ts) a
one_row n ts f r a v e d unfit got down (inl k) = returned_is_chosen n ts f a v e (λ x. unfit x k.0) (got k.0 k.1)
one_row n ts f r a v e d unfit got down (inr k) =
    refused_is_chosen n ts a d (λ us t q h.
    let m = of_row n ts us t f v e (belongs q) h in
    elim (down m.0 m.2 m.1) [ inl x ↦ absurd (k.0 x) | inr x ↦ x ])
    k.1

-- Arguments that parameters take

pub record Head (ts : List WgslType) (u : WgslType) (us : List WgslType) : Type 0 where
  pub a : WgslType
  pub rest : List WgslType
  pub is : ts ≡ a ∷ rest
  pub above : Above a u
  pub converts : ConvertsTo a u
  pub values : All IsValueType rest
  pub taken : TakenBy us rest

pub head_taken : (ts : List WgslType) (u : WgslType) (us : List WgslType) (ws : List ℕ) → All IsValueType ts → HasRanks ts (u ∷ us) ws → Head ts u us
head_taken [] u us ws v h = absurd h
head_taken (a ∷ ts) u us [] v h = absurd h
head_taken (a ∷ ts) u us (w ∷ ws) v h = record {
  a = a;
  rest = ts;
  is = refl;
  above = (value_converts (values_head a ts v) h.0).0;
  converts = (w, h.0);
  values = values_tail a ts v;
  taken = (ws, h.1);
}

pub none_taken : (ts : List WgslType) (ws : List ℕ) → HasRanks ts [] ws → ts ≡ []
none_taken [] ws h = refl
none_taken (a ∷ ts) ws h = absurd h

pub record Pair (ts : List WgslType) (u v : WgslType) : Type 0 where
  pub a : WgslType
  pub b : WgslType
  pub is : ts ≡ a ∷ b ∷ []
  pub a_above : Above a u
  pub b_above : Above b v

pub two_taken : (ts : List WgslType) (u v : WgslType) → All IsValueType ts → TakenBy (u ∷ v ∷ []) ts → Pair ts u v
two_taken ts u v va h =
    let x = head_taken ts u (v ∷ []) h.0 va h.1 in
    let y = head_taken x.rest v [] x.taken.0 x.values x.taken.1 in
    let e = none_taken y.rest y.taken.0 y.taken.1 in
    record { a = x.a; b = y.a; is = cc (x.is, y.is, e); a_above = x.above; b_above = y.above }

pub record Triple (ts : List WgslType) (u v w : WgslType) : Type 0 where
  pub a : WgslType
  pub b : WgslType
  pub c : WgslType
  pub is : ts ≡ a ∷ b ∷ c ∷ []
  pub a_above : Above a u
  pub b_above : Above b v
  pub c_above : Above c w

pub three_taken : (ts : List WgslType) (u v w : WgslType) → All IsValueType ts → TakenBy (u ∷ v ∷ w ∷ []) ts → Triple ts u v w
three_taken ts u v w va h =
    let x = head_taken ts u (v ∷ w ∷ []) h.0 va h.1 in
    let y = two_taken x.rest v w x.values x.taken in
    record { a = x.a; b = y.a; c = y.b; is = cc (x.is, y.is); a_above = x.above; b_above = y.a_above; c_above = y.b_above }

pub left_of_three : (x y z : WgslType) (c t : Option WgslType) → IsCommon x y c → IsCommonOf c (Some z) t → IsLeftCommon (x ∷ y ∷ z ∷ []) t
left_of_three x y z c t h k = of_last_member z (λ e. absurd (cc e)) (left_of_two x y c h) (at c k)
  where
    at : (c : Option WgslType) → IsCommonOf c (Some z) t → IsCommonWith c z t
    at None k = k
    at (Some c) k = k

pub record AreAbove (a b c d : WgslType) : Type 0 where
  pub first : Above a d
  pub second : Above b d
  pub third : Above c d

-- all three convert to their common type
pub are_above : (a b c d : WgslType) → All IsValueType (a ∷ b ∷ c ∷ []) → IsLeftCommon (a ∷ b ∷ c ∷ []) (Some d) → AreAbove a b c d
are_above a b c d v h =
    let k = left_common_least (a ∷ b ∷ c ∷ []) d v h in
    let v' = values_tail a (b ∷ c ∷ []) v in
    let g = receives_tail d a (b ∷ c ∷ []) k.0 in
    record {
      first = value_above (values_head a (b ∷ c ∷ []) v) (receives_head d a (b ∷ c ∷ []) k.0);
      second = value_above (values_head b (c ∷ []) v') (receives_head d b (c ∷ []) g);
      third = value_above (values_head c [] (values_tail b (c ∷ []) v')) (receives_head d c [] (receives_tail d b (c ∷ []) g));
    }
