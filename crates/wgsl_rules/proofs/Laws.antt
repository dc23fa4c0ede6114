-- The laws that the contracts state.
use Rattle.std.proofs.Common.{◌≢◌, List, [], ◌∷◌, Option, Some, None, All, IsPermutation, refl, sym, ◌∙◌, ap, subst, inl, inr, arith}
use Rattle.wgsl_rules.proofs.Common.{WgslType, IsValueType, ConvertsTo, IsLeftCommon, Receives, IsLeastCommon, Name}
use Rattle.wgsl_rules.specs.Laws.{ConversionOrder, RanksAdd, TargetsComparable, RankNamesTarget, CommonAnyOrder, LeftCommonIsLeast, CommonSymmetric, OneChoice}
use Rattle.wgsl_rules.proofs.operators.ChosenRows.{two_values}
use Rattle.wgsl_rules.proofs.operators.Choices.{some_choice, choice_once}
use Rattle.wgsl_rules.proofs.conversion.Steps.{depth, depth_small}
use Rattle.wgsl_rules.proofs.conversion.Order.{Above, here, above_level, above_trans, above_chain, above_same_depth, above_along, above_converts, value_converts, converts_once, converts_antisym}
use Rattle.wgsl_rules.proofs.conversion.Commons.{value_above, common_symmetric, some_left_common, left_common_once, left_common_least, left_common_none, least_common_once, common_any_order_lem}

pub self_converts : (t : WgslType) → ConvertsTo t t
self_converts t = above_converts here

pub order : (a b c : WgslType) → IsValueType a → IsValueType b → IsValueType c → ConversionOrder a b c
order a b c va vb vc = record {
  reflexive = self_converts a;
  antisymmetric = converts_antisym;
  transitive = λ p q. above_converts (above_trans (value_above va p) (value_above vb q));
}

-- no premise on c
pub adds : (a b c : WgslType) → IsValueType a → IsValueType b → RanksAdd a b c
adds a b c va vb = record {
  sum = λ v w p q.
      let k = value_converts va p in
      let m = value_converts vb q in
      inl (above_along (above_trans k.0 m.0) (omega (arith, k.1, m.1)));
  one_rank = λ v w p q. converts_once p q;
  zero = (
    λ p. let k = value_converts va p in above_level k.0 (omega (arith, k.1)),
    λ e. inl (above_along (subst (λ b. Above a b) e here) (omega (arith, ap depth e))),
  );
}

pub comparable : (a b c : WgslType) → IsValueType a → IsValueType b → TargetsComparable a b c
comparable a b c va vb p q =
    elim (above_chain (value_above va p) (value_above vb q)) [ inl r ↦ inl (above_converts r) | inr r ↦ inr (above_converts r) ]

pub names_target : (a b c : WgslType) → IsValueType a → RankNamesTarget a b c
names_target a b c va = record {
  same = λ w p q.
      let k = value_converts va p in
      let m = value_converts va q in
      above_same_depth k.0 m.0 (k.1 ∙ sym m.1);
  small = λ w p. let k = value_converts va p in omega (arith, k.1, depth_small b);
}

pub any_order : (ts us : List WgslType) → IsPermutation ts us → All IsValueType ts → CommonAnyOrder ts us
any_order ts us p vs r = (
  λ h. let k = some_left_common us in subst (λ r. IsLeftCommon us r) (sym (common_any_order_lem ts us r k.0 p vs h k.1)) k.1,
  λ h. let k = some_left_common ts in subst (λ r. IsLeftCommon ts r) (common_any_order_lem ts us k.0 r p vs k.1 h) k.1,
)

nonempty_none : (ts : List WgslType) → ts ≢ [] → All IsValueType ts → IsLeftCommon ts None → (v : WgslType) → ¬ Receives v ts
nonempty_none [] n vs h v g = n refl
nonempty_none (t ∷ ts) n vs h v g = left_common_none t ts vs h v g

pub left_is_least : (ts : List WgslType) → All IsValueType ts → LeftCommonIsLeast ts
left_is_least ts vs = record {
  one = left_common_once ts;
  some = λ u h. left_common_least ts u vs h;
  none = λ n h. nonempty_none ts n vs h;
  least_is_left = λ n u h. let k = some_left_common ts in known n u h k.0 k.1;
}
  where
    known : ts ≢ [] → (u : WgslType) → IsLeastCommon u ts → (r : Option WgslType) → IsLeftCommon ts r → IsLeftCommon ts (Some u)
    known n u h None k = absurd (nonempty_none ts n vs k u h.0)
    known n u h (Some c) k = subst (λ c. IsLeftCommon ts (Some c)) (least_common_once ts c u (left_common_least ts c vs k) h) k

pub symmetric : (a b : WgslType) → CommonSymmetric a b
symmetric a b r = (common_symmetric a b r, common_symmetric b a r)

pub one_choice : (n : Name) (ts : List WgslType) → All IsValueType ts → OneChoice n ts
one_choice n ts vs = record {
  exists = λ us r q h. some_choice n ts us r vs q h;
  one = λ us ws r s a b. choice_once n ts us ws r s a b;
}

pub one_choice_of_two : (n : Name) (a b : WgslType) → IsValueType a → IsValueType b → OneChoice n (a ∷ b ∷ [])
one_choice_of_two n a b va vb = one_choice n (a ∷ b ∷ []) (two_values a b va vb)
