-- The size of a struct, member by member, from the end and the greatest alignment of the members before.
use Rattle.std.proofs.Common.{◌≡◌, ℕ, ◌+◌, ◌<◌, ◌≤◌, ◌^◌, ◌↔◌, inl, inr, zero, suc, max, List, [], ◌∷◌, length, Option, Some, None, MatchOption, refl, sym, ap, subst, ◌∙◌, arith, All}
use Rattle.wgsl_rules.proofs.Common.{◌∣◌, next_multiple_of, same_Some, RuleSet, WgslType, struct, Members, no_members, member, MemberLayout, AreLaid, greatest_align, IsLeastTotal}
use Rattle.std.proofs.lemmas.Bool.{cases_lt}
use Rattle.wgsl_rules.specs.layout.Layout.{IsGiven, HasSizeBy, HasAlignmentBy, HaveLayoutsBy, IsRoundedUp, IsStride, IsStructSize, IsExactly, SomeUnknownBy, SomeZeroAlignBy, HasNoSizeBy, unknown, zero_align, empty, too_large}
use Rattle.wgsl_rules.proofs.layout.Placing.{Aligned, end_of, laid_sooner, laid_before, next_least, least_total}
use Rattle.wgsl_rules.proofs.layout.OneSize.{one_size, one_align, one_given}
use Rattle.wgsl_rules.proofs.layout.Steps.{rounded_up, one_rounded}

abbrev pub TooLarge : RuleSet → ℕ → ℕ → Members → Type 0
TooLarge rules e g ms = (ps : List MemberLayout) (os : List ℕ) (total : ℕ) → HaveLayoutsBy rules ms ps → AreLaid e ps os total → max g (greatest_align ps) ∣ total → 2 ^ 32 ≤ total

-- why there is no size, if the members ms are left
pub data NoFrom (rules : RuleSet) (e g : ℕ) (ms : Members) : Type 0 where
  from_unknown : SomeUnknownBy rules ms → NoFrom rules e g ms
  from_zero : SomeZeroAlignBy rules ms → NoFrom rules e g ms
  from_none : ms ≡ no_members → g ≡ 0 → NoFrom rules e g ms
  from_large : TooLarge rules e g ms → NoFrom rules e g ms

-- the size, if the members ms are left
pub record IsFrom (rules : RuleSet) (e g : ℕ) (ms : Members) (n : ℕ) : Type 0 where
  pub layouts : List MemberLayout
  pub known : HaveLayoutsBy rules ms layouts
  pub aligned : Aligned layouts
  pub positive : 0 < max g (greatest_align layouts)
  pub is : n ≡ next_multiple_of (end_of e layouts) (max g (greatest_align layouts))
  pub fits : n < 2 ^ 32

abbrev pub SizeFrom : RuleSet → ℕ → ℕ → Members → Option ℕ → Type 0
SizeFrom rules e g ms r = MatchOption r (NoFrom rules e g ms) (IsFrom rules e g ms)

-- At a member

stop_no_size : (rules : RuleSet) (e g : ℕ) (name : List ℕ) (t : WgslType) (size align : Option ℕ) (ms : Members) → IsExactly None (IsGiven size (HasSizeBy rules t)) → NoFrom rules e g (member name t size align ms)
stop_no_size rules e g name t size align ms h = from_unknown (inl (λ n s. absurd (let f : None ≡ Some n = (h n).1 s in cc)))

stop_no_align : (rules : RuleSet) (e g : ℕ) (name : List ℕ) (t : WgslType) (size align : Option ℕ) (ms : Members) → IsExactly None (IsGiven align (HasAlignmentBy rules t)) → NoFrom rules e g (member name t size align ms)
stop_no_align rules e g name t size align ms h = from_unknown (inr (inl (λ n s. absurd (let f : None ≡ Some n = (h n).1 s in cc))))

stop_large : (rules : RuleSet) (e g a s : ℕ) (name : List ℕ) (t : WgslType) (size align : Option ℕ) (ms : Members) → IsGiven align (HasAlignmentBy rules t) a → IsGiven size (HasSizeBy rules t) s
    → 0 < a → 2 ^ 32 ≤ next_multiple_of e a + s → TooLarge rules e g (member name t size align ms)
stop_large rules e g a s name t size align ms ea es pos big [] os total known l d = absurd known
stop_large rules e g a s name t size align ms ea es pos big (p ∷ ps) [] total known l d = absurd l
stop_large rules e g a s name t size align ms ea es pos big (p ∷ ps) (o ∷ os) total known l d =
    let same_align : p.align ≡ a = one_given align (HasAlignmentBy rules t) (one_align rules t) p.align a known.1 ea in
    let same_size : p.size ≡ s = one_given size (HasSizeBy rules t) (one_size rules t) p.size s known.0 es in
    let div : a ∣ o = subst (λ (x : ℕ). x ∣ o) same_align l.0 in
    let at : next_multiple_of e a ≤ o = next_least e a o pos div l.1 in
    let end : o + p.size ≤ total = laid_before (o + p.size) ps os total l.2 in
    omega (arith, at, end, same_size)

stop_sum : (rules : RuleSet) (e g a s : ℕ) (name : List ℕ) (t : WgslType) (size align : Option ℕ) (ms : Members) → IsGiven align (HasAlignmentBy rules t) a → IsGiven size (HasSizeBy rules t) s
    → ¬ ((0 < a) × (next_multiple_of e a + s < 2 ^ 32)) → NoFrom rules e g (member name t size align ms)
stop_sum rules e g a s name t size align ms ea es h = elim (cases_lt 0 a) [
  | inl pos ↦ elim (cases_lt (next_multiple_of e a + s) (2 ^ 32)) [
    | inl small ↦ absurd (h (pos, small))
    | inr large ↦ from_large (stop_large rules e g a s name t size align ms ea es pos (omega arith))
  ]
  | inr low ↦ from_zero (inl (subst (λ (x : ℕ). IsGiven align (HasAlignmentBy rules t) x) (let z : a ≡ 0 = omega arith in z) ea))
]

on_large : (rules : RuleSet) (e g a s : ℕ) (name : List ℕ) (t : WgslType) (size align : Option ℕ) (ms : Members) → IsGiven align (HasAlignmentBy rules t) a → IsGiven size (HasSizeBy rules t) s
    → 0 < a → TooLarge rules (next_multiple_of e a + s) (max g a) ms → TooLarge rules e g (member name t size align ms)
on_large rules e g a s name t size align ms ea es pos h [] os total known l d = absurd known
on_large rules e g a s name t size align ms ea es pos h (p ∷ ps) [] total known l d = absurd l
on_large rules e g a s name t size align ms ea es pos h (p ∷ ps) (o ∷ os) total known l d =
    let same_align : p.align ≡ a = one_given align (HasAlignmentBy rules t) (one_align rules t) p.align a known.1 ea in
    let same_size : p.size ≡ s = one_given size (HasSizeBy rules t) (one_size rules t) p.size s known.0 es in
    let div : a ∣ o = subst (λ (x : ℕ). x ∣ o) same_align l.0 in
    let at : next_multiple_of e a ≤ o = next_least e a o pos div l.1 in
    let all : max g (greatest_align (p ∷ ps)) ≡ max (max g a) (greatest_align ps) = omega (arith, same_align) in
    h ps os total known.2 (laid_sooner (next_multiple_of e a + s) (o + p.size) ps os total (omega (arith, at, same_size)) l.2) (subst (λ (x : ℕ). x ∣ total) all d)

on_none : (rules : RuleSet) (e g a s : ℕ) (name : List ℕ) (t : WgslType) (size align : Option ℕ) (ms : Members) → IsGiven align (HasAlignmentBy rules t) a → IsGiven size (HasSizeBy rules t) s
    → 0 < a → NoFrom rules (next_multiple_of e a + s) (max g a) ms → NoFrom rules e g (member name t size align ms)
on_none rules e g a s name t size align ms ea es pos (from_unknown h) = from_unknown (inr (inr h))
on_none rules e g a s name t size align ms ea es pos (from_zero h) = from_zero (inr h)
on_none rules e g a s name t size align ms ea es pos (from_none h z) = absurd (omega arith)
on_none rules e g a s name t size align ms ea es pos (from_large h) = from_large (on_large rules e g a s name t size align ms ea es pos h)

on_some : (rules : RuleSet) (e g a s : ℕ) (name : List ℕ) (t : WgslType) (size align : Option ℕ) (ms : Members) (n : ℕ) → IsGiven align (HasAlignmentBy rules t) a → IsGiven size (HasSizeBy rules t) s
    → 0 < a → IsFrom rules (next_multiple_of e a + s) (max g a) ms n → IsFrom rules e g (member name t size align ms) n
on_some rules e g a s name t size align ms n ea es pos h =
    let all : max (max g a) (greatest_align h.layouts) ≡ max g (max a (greatest_align h.layouts)) = omega arith in
    record {
      layouts = record { size = s; align = a } ∷ h.layouts;
      known = (es, ea, h.known);
      aligned = (pos, h.aligned);
      positive = let was : 0 < max (max g a) (greatest_align h.layouts) = h.positive in omega arith;
      is = h.is ∙ ap (λ x. next_multiple_of (end_of (next_multiple_of e a + s) h.layouts) x) all;
      fits = h.fits;
    }

one_more : (rules : RuleSet) (e g a s : ℕ) (name : List ℕ) (t : WgslType) (size align : Option ℕ) (ms : Members) (r : Option ℕ) → IsGiven align (HasAlignmentBy rules t) a → IsGiven size (HasSizeBy rules t) s
    → 0 < a → SizeFrom rules (next_multiple_of e a + s) (max g a) ms r → SizeFrom rules e g (member name t size align ms) r
one_more rules e g a s name t size align ms None ea es pos h = on_none rules e g a s name t size align ms ea es pos h
one_more rules e g a s name t size align ms (Some n) ea es pos h = on_some rules e g a s name t size align ms n ea es pos h

-- Without more members

all_some : (rules : RuleSet) (e g : ℕ) → 0 < g → next_multiple_of e g < 2 ^ 32 → IsFrom rules e g no_members (next_multiple_of e g)
all_some rules e g pos fits =
    let m : max g 0 ≡ g = omega arith in
    record { layouts = []; known = tt; aligned = tt; positive = omega arith; is = ap (λ x. next_multiple_of e x) (sym m); fits = fits }

all_large : (rules : RuleSet) (e g : ℕ) → 0 < g → 2 ^ 32 ≤ next_multiple_of e g → TooLarge rules e g no_members
all_large rules e g pos big [] [] total known l d =
    let m : max g 0 ≡ g = omega arith in
    let at : next_multiple_of e g ≤ total = next_least e g total pos (subst (λ (x : ℕ). x ∣ total) m d) l in
    omega arith
all_large rules e g pos big [] (o ∷ os) total known l d = absurd l
all_large rules e g pos big (p ∷ ps) os total known l d = absurd known

all_none : (rules : RuleSet) (e g : ℕ) → ¬ ((0 < g) × (next_multiple_of e g < 2 ^ 32)) → NoFrom rules e g no_members
all_none rules e g h = elim (cases_lt 0 g) [
  | inl pos ↦ elim (cases_lt (next_multiple_of e g) (2 ^ 32)) [ inl small ↦ absurd (h (pos, small)) | inr large ↦ from_large (all_large rules e g pos large) ]
  | inr low ↦ from_none refl (omega arith)
]

-- The size of the whole struct, by the members that are left

abbrev pub SizeSoFar : RuleSet → Option ℕ → ℕ → Members → Members → Type 0
SizeSoFar rules None g rest ms = NoFrom rules 0 0 ms
SizeSoFar rules (Some e) g rest ms = (r : Option ℕ) → SizeFrom rules e g rest r → SizeFrom rules 0 0 ms r

pub size_starts : (rules : RuleSet) (ms : Members) → SizeSoFar rules (Some 0) 0 ms ms
size_starts rules ms r h = h

-- a member without an alignment
pub size_stops : (rules : RuleSet) (end : Option ℕ) (g : ℕ) (name : List ℕ) (t : WgslType) (size align : Option ℕ) (rest ms : Members) → IsExactly None (IsGiven align (HasAlignmentBy rules t))
    → SizeSoFar rules end g (member name t size align rest) ms → SizeFrom rules 0 0 ms None
size_stops rules None g name t size align rest ms h sofar = sofar
size_stops rules (Some e) g name t size align rest ms h sofar = sofar None (stop_no_align rules e g name t size align rest h)

-- the end of a member at its first offset after `end`
abbrev pub IsSoonestEnd : Option ℕ → Option ℕ → ℕ → ℕ → Type 0
IsSoonestEnd end size a n = (e : ℕ) × (s : ℕ) × (end ≡ Some e) × (size ≡ Some s) × (0 < a) × (n ≡ next_multiple_of e a + s) × (n < 2 ^ 32)

pub size_goes_on : (rules : RuleSet) (end so next : Option ℕ) (g a : ℕ) (name : List ℕ) (t : WgslType) (size align : Option ℕ) (rest ms : Members)
    → IsExactly so (IsGiven size (HasSizeBy rules t)) → IsGiven align (HasAlignmentBy rules t) a → IsExactly next (IsSoonestEnd end so a)
    → SizeSoFar rules end g (member name t size align rest) ms → SizeSoFar rules next (max g a) rest ms
size_goes_on rules None so None g a name t size align rest ms es ea is sofar = sofar
size_goes_on rules None so (Some n) g a name t size align rest ms es ea is sofar = let h = (is n).0 refl in absurd (let f : None ≡ Some h.0 = h.2 in cc)
size_goes_on rules (Some e) None None g a name t size align rest ms es ea is sofar = sofar None (stop_no_size rules e g name t size align rest es)
size_goes_on rules (Some e) None (Some n) g a name t size align rest ms es ea is sofar = let h = (is n).0 refl in absurd (let f : None ≡ Some h.1 = h.3 in cc)
size_goes_on rules (Some e) (Some s) None g a name t size align rest ms es ea is sofar =
    sofar None (stop_sum rules e g a s name t size align rest ea ((es s).0 refl) (λ h.
    absurd (let f : None ≡ Some (next_multiple_of e a + s) = (is (next_multiple_of e a + s)).1 (e, s, refl, refl, h.0, refl, h.1) in cc)))
size_goes_on rules (Some e) (Some s) (Some n) g a name t size align rest ms es ea is sofar = λ r after.
    let h = (is n).0 refl in
    let same_end : e ≡ h.0 = same_Some e h.0 h.2 in
    let same_size : s ≡ h.1 = same_Some s h.1 h.3 in
    let n_is : n ≡ next_multiple_of e a + s = h.5 ∙ ap (λ x. next_multiple_of x a + h.1) (sym same_end) ∙ ap (λ x. next_multiple_of e a + x) (sym same_size) in
    sofar r (one_more rules e g a s name t size align rest r ea ((es s).0 refl) h.4 (subst (λ (x : ℕ). SizeFrom rules x (max g a) rest r) n_is after))

pub size_ends : (rules : RuleSet) (end r : Option ℕ) (g : ℕ) (ms : Members) → IsExactly r (IsStride (λ s. end ≡ Some s) (λ a. Some g ≡ Some a))
    → SizeSoFar rules end g no_members ms → SizeFrom rules 0 0 ms r
size_ends rules None None g ms is sofar = sofar
size_ends rules None (Some n) g ms is sofar = let h = (is n).0 refl in absurd (let f : None ≡ Some h.0 = h.2 in cc)
size_ends rules (Some e) None g ms is sofar = sofar None (all_none rules e g (λ h.
    absurd (let f : None ≡ Some (next_multiple_of e g) = (is (next_multiple_of e g)).1 (e, g, refl, refl, rounded_up e g h.0, h.1) in cc)))
size_ends rules (Some e) (Some n) g ms is sofar =
    let h = (is n).0 refl in
    let same_end : e ≡ h.0 = same_Some e h.0 h.2 in
    let same_align : g ≡ h.1 = same_Some g h.1 h.3 in
    let up : IsRoundedUp e g n = subst (λ (x : ℕ). IsRoundedUp e x n) (sym same_align) (subst (λ (x : ℕ). IsRoundedUp x h.1 n) (sym same_end) h.4) in
    let n_is : n ≡ next_multiple_of e g = one_rounded e g n (next_multiple_of e g) up (rounded_up e g up.0) in
    sofar (Some n) (subst (λ (x : ℕ). IsFrom rules e g no_members x) (sym n_is) (all_some rules e g up.0 (subst (λ (x : ℕ). x < 2 ^ 32) n_is h.5)))

-- The size of a struct, and why there is none

aligned_all : (ps : List MemberLayout) → Aligned ps → All (λ p. 0 < p.align) ps
aligned_all [] al k d lt = absurd (omega arith)
aligned_all (p ∷ ps) al zero d lt = al.0
aligned_all (p ∷ ps) al (suc k) d lt = aligned_all ps al.1 k d (omega arith)

pub all_aligned : (ps : List MemberLayout) → All (λ p. 0 < p.align) ps → Aligned ps
all_aligned [] h = tt
all_aligned (p ∷ ps) h = (h 0 p (omega arith), all_aligned ps (λ k d lt. h (suc k) d (omega arith)))

greatest_some : (ps : List MemberLayout) → 0 < max 0 (greatest_align ps) → 0 < length ps
greatest_some [] h = absurd (omega arith)
greatest_some (p ∷ ps) h = omega arith

size_is : (rules : RuleSet) (ms : Members) (n : ℕ) → IsFrom rules 0 0 ms n → IsStructSize (HaveLayoutsBy rules ms) n
size_is rules ms n h =
    let g : max 0 (greatest_align h.layouts) ≡ greatest_align h.layouts = omega arith in
    let pos : 0 < greatest_align h.layouts = let was : 0 < max 0 (greatest_align h.layouts) = h.positive in omega arith in
    let is : n ≡ next_multiple_of (end_of 0 h.layouts) (greatest_align h.layouts) = h.is ∙ ap (λ x. next_multiple_of (end_of 0 h.layouts) x) g in
    record {
      layouts = h.layouts;
      known = h.known;
      some_member = greatest_some h.layouts h.positive;
      aligned = aligned_all h.layouts h.aligned;
      least = subst (λ (x : ℕ). IsLeastTotal h.layouts x) (sym is) (least_total h.layouts h.aligned pos);
      fits = h.fits;
    }

no_size : (rules : RuleSet) (ms : Members) → NoFrom rules 0 0 ms → HasNoSizeBy rules ms
no_size rules ms (from_unknown h) = unknown h
no_size rules ms (from_zero h) = zero_align h
no_size rules ms (from_none h z) = empty h
no_size rules ms (from_large h) = too_large (λ ps os total known placed.
    let g : greatest_align ps ≡ max 0 (greatest_align ps) = omega arith in
    h ps os total known placed.0 (subst (λ (x : ℕ). x ∣ total) g placed.1))

not_unknown : (rules : RuleSet) (ms : Members) (ps : List MemberLayout) → HaveLayoutsBy rules ms ps → SomeUnknownBy rules ms → ⊥
not_unknown rules no_members ps known h = h
not_unknown rules (member name t size align ms) [] known h = known
not_unknown rules (member name t size align ms) (p ∷ ps) known (inl h) = h p.size known.0
not_unknown rules (member name t size align ms) (p ∷ ps) known (inr (inl h)) = h p.align known.1
not_unknown rules (member name t size align ms) (p ∷ ps) known (inr (inr h)) = not_unknown rules ms ps known.2 h

not_zero : (rules : RuleSet) (ms : Members) (ps : List MemberLayout) → HaveLayoutsBy rules ms ps → Aligned ps → SomeZeroAlignBy rules ms → ⊥
not_zero rules no_members ps known al h = h
not_zero rules (member name t size align ms) [] known al h = known
not_zero rules (member name t size align ms) (p ∷ ps) known al (inl h) =
    let z : p.align ≡ 0 = one_given align (HasAlignmentBy rules t) (one_align rules t) p.align 0 known.1 h in
    let pos : 0 < p.align = al.0 in
    omega arith
not_zero rules (member name t size align ms) (p ∷ ps) known al (inr h) = not_zero rules ms ps known.2 al.1 h

not_empty : (rules : RuleSet) (ms : Members) (ps : List MemberLayout) → ms ≡ no_members → HaveLayoutsBy rules ms ps → 0 < length ps → ⊥
not_empty rules no_members [] e known h = omega arith
not_empty rules no_members (p ∷ ps) e known h = known
not_empty rules (member name t size align ms) ps e known h = cc

-- a struct with a size has none of the causes to have none
pub never_both : (rules : RuleSet) (ms : Members) (n : ℕ) → IsStructSize (HaveLayoutsBy rules ms) n → HasNoSizeBy rules ms → ⊥
never_both rules ms n h (unknown u) = not_unknown rules ms h.layouts h.known u
never_both rules ms n h (zero_align u) = not_zero rules ms h.layouts h.known (all_aligned h.layouts h.aligned) u
never_both rules ms n h (empty e) = not_empty rules ms h.layouts e h.known h.some_member
never_both rules ms n h (too_large large) =
    let big : 2 ^ 32 ≤ n = large h.layouts h.least.0.0 n h.known h.least.0.1 in
    let fits : n < 2 ^ 32 = h.fits in
    omega arith

pub struct_size : (rules : RuleSet) (name : List ℕ) (ms : Members) (r : Option ℕ) → SizeFrom rules 0 0 ms r → IsExactly r (HasSizeBy rules (struct name ms))
struct_size rules name ms None h n = (λ e. absurd (cc), λ s. absurd (never_both rules ms n s (no_size rules ms h)))
struct_size rules name ms (Some m) h n = (
  λ e. subst (λ (x : ℕ). IsStructSize (HaveLayoutsBy rules ms) x) (same_Some m n e) (size_is rules ms m h),
  λ s. ap Some (one_size rules (struct name ms) m n (size_is rules ms m h) s),
)

pub struct_lacks : (rules : RuleSet) (ms : Members) (r : Option ℕ) → SizeFrom rules 0 0 ms r → (r ≡ None) ↔ HasNoSizeBy rules ms
struct_lacks rules ms None h = (λ e. no_size rules ms h, λ s. refl)
struct_lacks rules ms (Some m) h = (λ e. absurd (cc), λ s. absurd (never_both rules ms m (size_is rules ms m h) s))
