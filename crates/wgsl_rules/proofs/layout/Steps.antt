-- One step of a layout: an option that is Some n exactly if a relation holds of n.
use Rattle.std.proofs.Common.{◌≡◌, ◌≢◌, ◌↔◌, ℕ, ◌<◌, ◌≤◌, ◌^◌, inl, inr, Option, Some, None, refl, sym, ap, subst, ◌∙◌, arith, SomeIff}
use Rattle.wgsl_rules.proofs.Common.{next_multiple_of, same_Some, RuleSet, Ported, Standard, I32, U32, F32, F16, WgslType, scalar, struct, array}
use Rattle.wgsl_rules.specs.layout.Layout.{IsTimes, IsRoundedUp, IsStride, IsArraySize, IsAlignOfThreeBy, IsVectorAlignBy, HasSize, HasSizeBy, HasLeastSize, IsExactly, LacksSizeBy}
use Rattle.wgsl_rules.proofs.layout.Placing.{next_ge, next_dvd, next_least}

pub rounded_up : (s a : ℕ) → 0 < a → IsRoundedUp s a (next_multiple_of s a)
rounded_up s a pos = (pos, next_dvd s a pos, next_ge s a, λ m d le. next_least s a m pos d le)

pub one_rounded : (s a m n : ℕ) → IsRoundedUp s a m → IsRoundedUp s a n → m ≡ n
one_rounded s a m n x y = let up : m ≤ n = x.3 n y.1 y.2 in let down : n ≤ m = y.3 m x.1 x.2 in omega arith

-- The single operations

pub next_stride : (s a : ℕ) (o p r : Option ℕ) → o ≡ Some s → p ≡ Some a → SomeIff r ((0 < a) × (next_multiple_of s a < 2 ^ 32)) (next_multiple_of s a)
    → IsExactly r (IsStride (λ n. o ≡ Some n) (λ n. p ≡ Some n))
next_stride s a o p None is_s is_a h n = (
  λ e. absurd (cc),
  λ x.
      let size : s ≡ x.0 = same_Some s x.0 (sym is_s ∙ x.2) in
      let align : a ≡ x.1 = same_Some a x.1 (sym is_a ∙ x.3) in
      let up : IsRoundedUp s a n = subst (λ (d : ℕ). IsRoundedUp s d n) (sym align) (subst (λ (d : ℕ). IsRoundedUp d x.1 n) (sym size) x.4) in
      let is : n ≡ next_multiple_of s a = one_rounded s a n (next_multiple_of s a) up (rounded_up s a up.0) in
      absurd (h (up.0, subst (λ (y : ℕ). y < 2 ^ 32) is x.5)),
)
next_stride s a o p (Some m) is_s is_a h n = (
  λ e. let same : next_multiple_of s a ≡ n = sym h.1 ∙ same_Some m n e in
      (s, a, is_s, is_a, subst (λ (y : ℕ). IsRoundedUp s a y) same (rounded_up s a h.0.0), subst (λ (y : ℕ). y < 2 ^ 32) same h.0.1),
  λ x.
      let size : s ≡ x.0 = same_Some s x.0 (sym is_s ∙ x.2) in
      let align : a ≡ x.1 = same_Some a x.1 (sym is_a ∙ x.3) in
      let up : IsRoundedUp s a n = subst (λ (d : ℕ). IsRoundedUp s d n) (sym align) (subst (λ (d : ℕ). IsRoundedUp d x.1 n) (sym size) x.4) in
      ap Some (h.1 ∙ sym (one_rounded s a n (next_multiple_of s a) up (rounded_up s a up.0))),
)

pub counted_size : (k c : ℕ) (o r : Option ℕ) (S : ℕ → Type 0) → o ≡ Some k → k < 2 ^ 32 → c ≡ k → IsExactly r (IsTimes c S) → IsExactly r (IsArraySize o S)
counted_size k c None r S e fits same is n = absurd (cc)
counted_size k c (Some j) r S e fits same is n =
    let j_is : c ≡ j = same ∙ sym (same_Some j k e) in
    let here = subst (λ (x : ℕ). IsExactly r (IsTimes x S)) j_is is in
    (λ e'. (omega (arith, same_Some j k e), (here n).0 e'), λ h. (here n).1 h.1)

pub other_align : (rules : RuleSet) (k c : ℕ) (t : WgslType) (r : Option ℕ) (S : ℕ → Type 0) → k ≢ 3 → c ≡ k → IsExactly r (IsTimes c S) → IsExactly r (IsVectorAlignBy rules k t S)
other_align rules k c t r S not same is n =
    let here = subst (λ (x : ℕ). IsExactly r (IsTimes x S)) same is in
    (λ e. inr (not, (here n).0 e), λ h. (here n).1 (others h))
  where
    others : IsVectorAlignBy rules k t S n → IsTimes k S n
    others (inl h) = absurd (not h.0)
    others (inr h) = h.1

-- From the value of an option to the number that a relation describes

abbrev pub IsValue : Option ℕ → ℕ → Type 0
IsValue o n = o ≡ Some n

pub times : (k : ℕ) (o r : Option ℕ) (S : ℕ → Type 0) → IsExactly o S → IsExactly r (IsTimes k (IsValue o)) → IsExactly r (IsTimes k S)
times k o r S of is n = (
  λ e. let h = (is n).0 e in (h.0, (of h.0).0 h.1, h.2, h.3),
  λ h. (is n).1 (h.0, (of h.0).1 h.1, h.2, h.3),
)

pub stride : (o p r : Option ℕ) (S A : ℕ → Type 0) → IsExactly o S → IsExactly p A → IsExactly r (IsStride (IsValue o) (IsValue p)) → IsExactly r (IsStride S A)
stride o p r S A size align is n = (
  λ e. let h = (is n).0 e in (h.0, h.1, (size h.0).0 h.2, (align h.1).0 h.3, h.4, h.5),
  λ h. (is n).1 (h.0, h.1, (size h.0).1 h.2, (align h.1).1 h.3, h.4, h.5),
)

pub array_size : (k o r : Option ℕ) (S : ℕ → Type 0) → IsExactly o S → IsExactly r (IsArraySize k (IsValue o)) → IsExactly r (IsArraySize k S)
array_size None o r S of is n = ((is n).0, (is n).1)
array_size (Some k) o r S of is n = (
  λ e. let h = (is n).0 e in (h.0, (h.1.0, (of h.1.0).0 h.1.1, h.1.2, h.1.3)),
  λ h. (is n).1 (h.0, (h.1.0, (of h.1.0).1 h.1.1, h.1.2, h.1.3)),
)

times_as : (k : ℕ) (A B : ℕ → Type 0) → ((m : ℕ) → A m → B m) → (n : ℕ) → IsTimes k A n → IsTimes k B n
times_as k A B to n h = (h.0, to h.0 h.1, h.2, h.3)

three_as : (rules : RuleSet) (t : WgslType) (A B : ℕ → Type 0) → ((m : ℕ) → A m → B m) → (n : ℕ) → IsAlignOfThreeBy rules t A n → IsAlignOfThreeBy rules t B n
three_as Ported (scalar I32) A B to n h = h
three_as Ported (scalar U32) A B to n h = h
three_as Ported (scalar F32) A B to n h = h
three_as Ported (scalar F16) A B to n h = h
three_as Ported t A B to n h = absurd h
three_as Standard t A B to n h = times_as 4 A B to n h

align_as : (rules : RuleSet) (k : ℕ) (t : WgslType) (A B : ℕ → Type 0) → ((m : ℕ) → A m → B m) → (n : ℕ) → IsVectorAlignBy rules k t A n → IsVectorAlignBy rules k t B n
align_as rules k t A B to n (inl h) = inl (h.0, three_as rules t A B to n h.1)
align_as rules k t A B to n (inr h) = inr (h.0, times_as k A B to n h.1)

pub vector_align : (rules : RuleSet) (k : ℕ) (t : WgslType) (o r : Option ℕ) (S : ℕ → Type 0) → IsExactly o S → IsExactly r (IsVectorAlignBy rules k t (IsValue o)) → IsExactly r (IsVectorAlignBy rules k t S)
vector_align rules k t o r S of is n = (
  λ e. align_as rules k t (IsValue o) S (λ m. (of m).0) n ((is n).0 e),
  λ h. (is n).1 (align_as rules k t S (IsValue o) (λ m. (of m).1) n h),
)

-- Types without a size

none_of : (r : Option ℕ) (P : ℕ → Type 0) → IsExactly r P → (r ≡ None) ↔ ((n : ℕ) → ¬ (P n))
none_of None P h = (λ e n p. let f : None ≡ Some n = (h n).1 p in absurd (cc), λ no. refl)
none_of (Some m) P h = (λ e. absurd (cc), λ no. absurd (no m ((h m).0 refl)))

abbrev pub IsNoStruct : WgslType → Type 0
IsNoStruct (struct name ms) = ⊥
IsNoStruct t = Unit {0}

pub lacks_size : (rules : RuleSet) (t : WgslType) → IsNoStruct t → (r : Option ℕ) → IsExactly r (HasSizeBy rules t) → (r ≡ None) ↔ LacksSizeBy rules t
lacks_size rules (struct name ms) k r h = absurd k
lacks_size rules t k r h = none_of r (HasSizeBy rules t) h

-- The least size

pub least_is_size : (t : WgslType) → ((k : Option ℕ) (u : WgslType) → t ≡ array k u → ⊥) → (r : Option ℕ) → IsExactly r (HasSize t) → IsExactly r (HasLeastSize t)
least_is_size (array k u) not r h = absurd (not k u refl)
least_is_size t not r h = h
