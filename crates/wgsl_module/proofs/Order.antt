-- Declarations that are done, one behind the other.
use Rattle.std.proofs.lemmas.List.Elements.{Contains-append_cases, Contains-append_left, Contains-append_right, Contains-push, Contains-push_cases}
use Rattle.std.proofs.Common.{ap₂, ◌≡◌, ◌≢◌, ◌∙◌, ◌+◌, ◌<◌, ◌≤◌, ◌⊎◌, ℕ, zero, suc, List, [], ◌∷◌, ◌++◌, Bool, true, false, Contains, Option, Some, ap, arith, cond, get_or, inl, inr, length, nat_eq, refl, replicate, set, slice_get, subst, sym}
use Rattle.std.proofs.Math.Dec.{eqb-suc-suc, eqb-suc-zero, eqb-zero-suc}
use Rattle.std.proofs.lemmas.List.Sums.{get_or-le-sum_by, sum_by-cons, sum_by_push}
use Rattle.wgsl_module.specs.Order.{times_in}
use Rattle.wgsl_module.specs.declared.walk.State.{State}
use Rattle.wgsl_module.specs.declared.walk.State.TheVariants.{Done, Unseen}

abbrev pub is_done : Option State → Bool
is_done (Some Done) = true
is_done other = false

-- those that are done, and no others, stand in the order, once
abbrev pub IsOrder : List State → List ℕ → Type 0
IsOrder states order = (index : ℕ) → times_in order index ≡ cond (is_done (slice_get states index)) 1 0

-- What is done stays done.
abbrev pub StaysDone : List State → List State → Type 0
StaysDone before after = (index : ℕ) → is_done (slice_get before index) ≡ true → is_done (slice_get after index) ≡ true

abbrev pub AreDone : ℕ → ℕ → List State → Type 0
AreDone from to states = (index : ℕ) → from ≤ index → index < to → index < length states → is_done (slice_get states index) ≡ true

-- One that is done

none_more : (n : ℕ) (b : Bool) → b ≡ false → n + cond b 1 0 ≡ n
none_more n true is = cc is
none_more n false is = omega arith

once_more : (states : List State) (index i : ℕ) (s : State) → slice_get states index ≡ Some s → is_done (Some s) ≡ false
    → cond (is_done (slice_get states i)) 1 0 + cond (nat_eq index i) 1 0 ≡ cond (is_done (slice_get (set states index Done) i)) 1 0
once_more [] index i s is not_done = cc is
once_more (t ∷ states) zero zero s is not_done = ap (λ b. cond b 1 0 + 1) (ap is_done is ∙ not_done)
once_more (t ∷ states) zero (suc i) s is not_done = none_more _ _ (eqb-zero-suc i)
once_more (t ∷ states) (suc index) zero s is not_done = none_more _ _ (eqb-suc-zero index)
once_more (t ∷ states) (suc index) (suc i) s is not_done =
    ap (λ b. cond (is_done (slice_get states i)) 1 0 + cond b 1 0) (eqb-suc-suc index i) ∙ once_more states index i s is not_done

pub one_done : (states : List State) (order : List ℕ) (index : ℕ) (s : State) → slice_get states index ≡ Some s → is_done (Some s) ≡ false
    → IsOrder states order → IsOrder (set states index Done) (order ++ index ∷ [])
one_done states order index s is not_done ordered i =
    sum_by_push (λ j. cond (nat_eq j i) 1 0) order index ∙ (ap (λ n. n + cond (nat_eq index i) 1 0) (ordered i) ∙ once_more states index i s is not_done)

pub stays_done : (states : List State) (index : ℕ) → StaysDone states (set states index Done)
stays_done [] index i done = done
stays_done (s ∷ states) zero zero done = refl
stays_done (s ∷ states) zero (suc i) done = done
stays_done (s ∷ states) (suc index) zero done = done
stays_done (s ∷ states) (suc index) (suc i) done = stays_done states index i done

pub none_done : (n : ℕ) → IsOrder (replicate n Unseen) []
none_done zero i = refl
none_done (suc n) zero = refl
none_done (suc n) (suc i) = none_done n i

before_or_at : (i to : ℕ) → i < to + 1 → (i < to) ⊎ (i ≡ to)
before_or_at zero zero below = inr refl
before_or_at zero (suc to) below = inl (omega arith)
before_or_at (suc i) zero below = absurd (omega (arith, below))
before_or_at (suc i) (suc to) below = elim (before_or_at i to (omega (arith, below))) [
  | inl before ↦ inl (omega (arith, before))
  | inr at ↦ inr (ap suc at)
]

-- those up to the next one
pub last_too : (from to : ℕ) (states new : List State) → StaysDone states new → length new ≡ length states
    → (to < length new → is_done (slice_get new to) ≡ true) → AreDone from to states → AreDone from (to + 1) new
last_too from to states new stays len last done i above below inside = elim (before_or_at i to below) [
  | inl before ↦ stays i (done i above before (omega (arith, len, inside)))
  | inr at ↦ subst (λ k. is_done (slice_get new k) ≡ true) (sym at) (last (omega (arith, at, inside)))
]

-- What stands in an order

nothing : {k : ℕ} → k < 0 → ⊥
nothing lt = omega arith

not_same : (i k : ℕ) → i ≢ k → nat_eq i k ≡ false
not_same zero zero other = absurd (other refl)
not_same zero (suc k) other = eqb-zero-suc k
not_same (suc i) zero other = eqb-suc-zero i
not_same (suc i) (suc k) other = eqb-suc-suc i k ∙ not_same i k (λ is. other (ap suc is))

head_of : {x y : ℕ} {xs ys : List ℕ} → x ∷ xs ≡ y ∷ ys → x ≡ y
head_of is = cc is

tail_of : {x y : ℕ} {xs ys : List ℕ} → x ∷ xs ≡ y ∷ ys → xs ≡ ys
tail_of is = cc is

pub no_more : (front rest : List ℕ) (j : ℕ) → front ++ j ∷ rest ≡ [] → ⊥
no_more [] rest j is = cc is
no_more (f ∷ front) rest j is = cc is

pub same_or_not : (i k : ℕ) → (i ≡ k) ⊎ (i ≢ k)
same_or_not zero zero = inl refl
same_or_not zero (suc k) = inr (λ is. omega (arith, is))
same_or_not (suc i) zero = inr (λ is. omega (arith, is))
same_or_not (suc i) (suc k) = elim (same_or_not i k) [ inl same ↦ inl (ap suc same) | inr other ↦ inr (λ is. other (omega (arith, is))) ]

pub in_front : (x y : ℕ) (xs : List ℕ) → Contains (x ∷ xs) y → (x ≡ y) ⊎ Contains xs y
in_front x y xs h = elim (Contains-append_cases (x ∷ []) xs y h) [
  | inl one ↦ elim (Contains-push_cases [] x y one) [ inl none ↦ absurd (nothing none.1) | inr same ↦ inl same ]
  | inr rest ↦ inr rest
]

without : (i k n : ℕ) (order : List ℕ) → i ≢ k → times_in (i ∷ order) k ≡ suc n → times_in order k ≡ suc n
without i k n order other is =
    let first : times_in (i ∷ order) k ≡ cond (nat_eq i k) 1 0 + times_in order k = sum_by-cons (λ j. cond (nat_eq j k) 1 0) i order in
    let none : ◌≡◌ {A = ℕ} (cond (nat_eq i k) 1 0) 0 = ap (λ b. cond b 1 0) (not_same i k other) in
    omega (arith, first, none, is)

pub in_order : (order : List ℕ) (k n : ℕ) → times_in order k ≡ suc n → Contains order k
in_order [] k n is = absurd (omega (arith, is))
in_order (i ∷ order) k n is = elim (same_or_not i k) [
  | inl same ↦ Contains-append_left (i ∷ []) order k (subst (λ j. Contains (j ∷ []) k) (sym same) (Contains-push [] k))
  | inr other ↦ Contains-append_right (i ∷ []) order k (in_order order k n (without i k n order other is))
]

-- the last one of an order, or one in front of it
pub last_or_before : (xs front rest : List ℕ) (x j : ℕ) → xs ++ x ∷ [] ≡ front ++ j ∷ rest
    → ((front ≡ xs) × (j ≡ x)) ⊎ ((more : List ℕ) × (xs ≡ front ++ j ∷ more))
last_or_before [] [] rest x j is = inl (refl, head_of (sym is))
last_or_before [] (f ∷ front) rest x j is = absurd (no_more front rest j (sym (tail_of is)))
last_or_before (y ∷ xs) [] rest x j is = inr (xs, ap (λ i. i ∷ xs) (head_of is))
last_or_before (y ∷ xs) (f ∷ front) rest x j is = elim (last_or_before xs front rest x j (tail_of is)) [
  | inl last ↦ inl (ap₂ (λ i is. i ∷ is) (sym (head_of is)) last.0, last.1)
  | inr before ↦ inr (before.0, ap₂ (λ i is. i ∷ is) (head_of is) before.1)
]

same_number : (k : ℕ) → nat_eq k k ≡ true
same_number zero = refl
same_number (suc k) = eqb-suc-suc k k ∙ same_number k

-- what stands there does so once or more
pub stands_there : (order : List ℕ) (k : ℕ) → Contains order k → 0 < times_in order k
stands_there order k h =
    let one : ◌≡◌ {A = ℕ} (cond (nat_eq (get_or order h.0 k) k) 1 0) 1 = ap (λ i. cond (nat_eq i k) 1 0) h.2 ∙ ap (λ b. cond b 1 0) (same_number k) in
    let all : cond (nat_eq (get_or order h.0 k) k) 1 0 ≤ times_in order k = get_or-le-sum_by (λ i. cond (nat_eq i k) 1 0) order h.0 k h.1 in
    omega (arith, one, all)
