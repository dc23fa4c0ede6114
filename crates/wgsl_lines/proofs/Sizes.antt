-- The size and the alignment of a type, and the offsets and the layout of a struct, or a cause to have none.
use Rattle.wgsl_lines.proofs.Common.{◌≡◌, ℕ, ◌*◌, ◌<◌, ◌≤◌, ◌^◌, ◌⊎◌, inl, inr, zero, suc, List, [], ◌∷◌, Option, Some, None, refl, ap, subst, ◌∙◌, arith, All}
use Rattle.wgsl_lines.proofs.Common.{cases_lt, ℕ_discrete, RuleSet, Scalar, AbstractInt, AbstractFloat, I32, U32, F32, F16, I64, U64, F64, WgslType}
use Rattle.wgsl_lines.proofs.Common.{scalar, struct, atomic, Members, no_members, member, array, vec, mat, Aligned, end_of, least_total, never_both, starts}
use Rattle.wgsl_lines.proofs.Common.{laid, no_less, no_earlier, all_aligned}
use Rattle.std.specs.Int.{next_multiple_of}
use Rattle.std.proofs.lemmas.Option.{same_Some}
use Rattle.wgsl_syntax.specs.declared.rules.RuleSet.TheVariants.{Ported, Standard}
use Rattle.wgsl_rules.specs.layout.Placement.{MemberLayout, greatest, greatest_align, IsLeastTotal, IsPlacement}
use Rattle.wgsl_rules.specs.layout.Layout.{IsScalarSize, IsAtomicSize, IsTimes, IsRoundedUp, IsStride, IsArraySize, IsAlignOfThreeBy, IsVectorAlignBy, IsGiven, IsStructSize, HasSizeBy, HasAlignmentBy, HaveLayoutsBy, HaveAlignmentsBy, IsExactly, SomeUnknownBy, SomeZeroAlignBy, HasNoSizeBy, unknown, zero_align, empty, too_large, AreOffsetsBy, IsStructLayoutBy}
use Rattle.wgsl_rules.proofs.layout.OneSize.{IsOne, one_vector_align, one_size, one_align, one_layouts, one_stride}
use Rattle.wgsl_rules.proofs.layout.Steps.{rounded_up, one_rounded}
use Rattle.wgsl_rules.proofs.layout.StructAligns.{sized_is_aligned}

-- some number has the property, or none has
abbrev pub Finds : (ℕ → Type 0) → Type 0
Finds P = ((n : ℕ) × P n) ⊎ ((n : ℕ) → ¬ P n)

exactly : (P : ℕ → Type 0) → IsOne P → Finds P → (r : Option ℕ) × IsExactly r P
exactly P one (inl h) = (Some h.0, λ n. (λ e. subst P (same_Some h.0 n e) h.1, λ k. ap Some (one h.0 n h.1 k)))
exactly P one (inr none) = (None, λ n. (λ e. absurd (cc), λ k. absurd (none n k)))

a_scalar_size : (s : Scalar) → Finds (IsScalarSize s)
a_scalar_size AbstractInt = inr (λ n h. h)
a_scalar_size AbstractFloat = inr (λ n h. h)
a_scalar_size F16 = inl (2, refl)
a_scalar_size I64 = inl (8, refl)
a_scalar_size U64 = inl (8, refl)
a_scalar_size F64 = inl (8, refl)
a_scalar_size s = inl (4, refl)

an_atomic_size : (t : WgslType) → Finds (IsAtomicSize t)
an_atomic_size (scalar I64) = inl (8, refl)
an_atomic_size (scalar U64) = inl (8, refl)
an_atomic_size t = inl (4, refl)

a_product : (k : ℕ) (S : ℕ → Type 0) → IsOne S → Finds S → Finds (IsTimes k S)
a_product k S one (inl h) = elim (cases_lt (k * h.0) (2 ^ 32)) [
  | inl small ↦ inl (k * h.0, (h.0, h.1, refl, small))
  | inr large ↦ inr (λ n p. let is : n ≡ k * h.0 = p.2 ∙ ap (λ (x : ℕ). k * x) (one p.0 h.0 p.1 h.1) in omega (arith, p.3))
]
a_product k S one (inr none) = inr (λ n p. none p.0 p.1)

a_stride : (S A : ℕ → Type 0) → IsOne S → IsOne A → Finds S → Finds A → Finds (IsStride S A)
a_stride S A s a (inl h) (inl k) = elim (cases_lt 0 k.0) [
  | inl pos ↦ elim (cases_lt (next_multiple_of h.0 k.0) (2 ^ 32)) [
    | inl small ↦ inl (next_multiple_of h.0 k.0, (h.0, k.0, h.1, k.1, rounded_up h.0 k.0 pos, small))
    | inr large ↦ inr (λ n p. let is = rounded n p in omega (arith, one_rounded h.0 k.0 n (next_multiple_of h.0 k.0) is (rounded_up h.0 k.0 pos), p.5))
  ]
  | inr low ↦ inr (λ n p. omega (arith, (rounded n p).0))
]
  where
    rounded : (n : ℕ) → IsStride S A n → IsRoundedUp h.0 k.0 n
    rounded n p = subst (λ (x : ℕ). IsRoundedUp x k.0 n) (s p.0 h.0 p.2 h.1) (subst (λ (x : ℕ). IsRoundedUp p.0 x n) (a p.1 k.0 p.3 k.1) p.4)
a_stride S A s a (inl h) (inr none) = inr (λ n p. none p.1 p.3)
a_stride S A s a (inr none) k = inr (λ n p. none p.0 p.2)

an_array_size : (k : Option ℕ) (S : ℕ → Type 0) → IsOne S → Finds S → Finds (IsArraySize k S)
an_array_size None S one h = inr (λ n p. p)
an_array_size (Some k) S one h = elim (cases_lt k (2 ^ 32)) [
  | inl small ↦ elim (a_product k S one h) [ inl m ↦ inl (m.0, (small, m.1)) | inr none ↦ inr (λ n p. none n p.1) ]
  | inr large ↦ inr (λ n p. omega (arith, p.0))
]

an_align_of_three : (rules : RuleSet) (t : WgslType) (S : ℕ → Type 0) → IsOne S → Finds S → Finds (IsAlignOfThreeBy rules t S)
an_align_of_three Ported (scalar I32) S one h = inl (16, refl)
an_align_of_three Ported (scalar U32) S one h = inl (16, refl)
an_align_of_three Ported (scalar F32) S one h = inl (16, refl)
an_align_of_three Ported (scalar F16) S one h = inl (8, refl)
an_align_of_three Ported t S one h = inr (λ n h. h)
an_align_of_three Standard t S one h = a_product 4 S one h

a_vector_align : (rules : RuleSet) (k : ℕ) (t : WgslType) (S : ℕ → Type 0) → IsOne S → Finds S → Finds (IsVectorAlignBy rules k t S)
a_vector_align rules k t S one h = elim (ℕ_discrete k 3) [
  | yes e ↦ elim (an_align_of_three rules t S one h) [
    | inl a ↦ inl (a.0, inl (e, a.1))
    | inr none ↦ inr (λ n p. elim p [ inl a ↦ none n a.1 | inr a ↦ a.0 e ])
  ]
  | no other ↦ elim (a_product k S one h) [
    | inl a ↦ inl (a.0, inr (other, a.1))
    | inr none ↦ inr (λ n p. elim p [ inl a ↦ other a.0 | inr a ↦ none n a.1 ])
  ]
]

a_given : (x : Option ℕ) (P : ℕ → Type 0) → Finds P → Finds (IsGiven x P)
a_given (Some x) P h = inl (x, refl)
a_given None P h = h

-- The members of a struct

-- each member has a size and an alignment, or has none
abbrev AreFound : RuleSet → Members → Type 0
AreFound rules no_members = Unit {0}
AreFound rules (member name t size align ms) = Finds (IsGiven size (HasSizeBy rules t)) × Finds (IsGiven align (HasAlignmentBy rules t)) × AreFound rules ms

some_layouts : (rules : RuleSet) (ms : Members) → AreFound rules ms → ((ls : List MemberLayout) × HaveLayoutsBy rules ms ls) ⊎ SomeUnknownBy rules ms
some_layouts rules no_members h = inl ([], tt)
some_layouts rules (member name t size align ms) (inr none, a, h) = inr (inl none)
some_layouts rules (member name t size align ms) (inl s, inr none, h) = inr (inr (inl none))
some_layouts rules (member name t size align ms) (inl s, inl a, h) = elim (some_layouts rules ms h) [
  | inl ls ↦ inl (record { size = s.0; align = a.0 } ∷ ls.0, (s.1, a.1, ls.1))
  | inr u ↦ inr (inr (inr u))
]

some_alignments : (rules : RuleSet) (ms : Members) → AreFound rules ms → ((xs : List ℕ) × HaveAlignmentsBy rules ms xs) ⊎ ((xs : List ℕ) → ¬ HaveAlignmentsBy rules ms xs)
some_alignments rules no_members h = inl ([], tt)
some_alignments rules (member name t size align ms) (s, a, h) = both a (some_alignments rules ms h)
  where
    both : Finds (IsGiven align (HasAlignmentBy rules t)) → ((xs : List ℕ) × HaveAlignmentsBy rules ms xs) ⊎ ((xs : List ℕ) → ¬ HaveAlignmentsBy rules ms xs)
        → ((xs : List ℕ) × HaveAlignmentsBy rules (member name t size align ms) xs) ⊎ ((xs : List ℕ) → ¬ HaveAlignmentsBy rules (member name t size align ms) xs)
    both (inl a) (inl xs) = inl (a.0 ∷ xs.0, (a.1, xs.1))
    both (inr none) xs = inr (none_first none)
      where
        none_first : ((a : ℕ) → ¬ IsGiven align (HasAlignmentBy rules t) a) → (xs : List ℕ) → ¬ HaveAlignmentsBy rules (member name t size align ms) xs
        none_first none [] k = k
        none_first none (x ∷ xs) k = none x k.0
    both (inl a) (inr none) = inr (none_after none)
      where
        none_after : ((xs : List ℕ) → ¬ HaveAlignmentsBy rules ms xs) → (xs : List ℕ) → ¬ HaveAlignmentsBy rules (member name t size align ms) xs
        none_after none [] k = k
        none_after none (x ∷ xs) k = none xs k.1

aligned_or_zero : (rules : RuleSet) (ms : Members) (ls : List MemberLayout) → HaveLayoutsBy rules ms ls → Aligned ls ⊎ SomeZeroAlignBy rules ms
aligned_or_zero rules no_members [] h = inl tt
aligned_or_zero rules no_members (l ∷ ls) h = absurd h
aligned_or_zero rules (member name t size align ms) [] h = absurd h
aligned_or_zero rules (member name t size align ms) (l ∷ ls) h = elim (cases_lt 0 l.align) [
  | inl pos ↦ elim (aligned_or_zero rules ms ls h.2) [ inl al ↦ inl (pos, al) | inr z ↦ inr (inr z) ]
  | inr low ↦ inr (inl (subst (λ (x : ℕ). IsGiven align (HasAlignmentBy rules t) x) (let z : l.align ≡ 0 = omega arith in z) h.1))
]

each_aligned : (ls : List MemberLayout) → Aligned ls → All (λ l. 0 < l.align) ls
each_aligned [] al k d lt = absurd (omega arith)
each_aligned (l ∷ ls) al zero d lt = al.0
each_aligned (l ∷ ls) al (suc k) d lt = each_aligned ls al.1 k d (omega arith)

-- the size of a struct, if its members have layouts with positive alignments, or a cause to have none
sized_or_cause : (rules : RuleSet) (ms : Members) (ls : List MemberLayout) → HaveLayoutsBy rules ms ls → Aligned ls → ((n : ℕ) × IsStructSize (HaveLayoutsBy rules ms) n) ⊎ HasNoSizeBy rules ms
sized_or_cause rules no_members ls h al = inr (empty refl)
sized_or_cause rules (member name t size align ms) [] h al = absurd h
sized_or_cause rules (member name t size align ms) (l ∷ ls) h al =
    let all = l ∷ ls in
    let total = next_multiple_of (end_of 0 all) (greatest_align all) in
    let least : IsLeastTotal all total = least_total all al (let pos : 0 < l.align = al.0 in omega arith) in
    elim (cases_lt total (2 ^ 32)) [
      | inl small ↦ inl (total, record { layouts = all; known = h; some_member = omega arith; aligned = each_aligned all al; least = least; fits = small })
      | inr large ↦ inr (too_large (λ ks xs m known placed.
          let same : ks ≡ all = one_layouts rules (member name t size align ms) ks all known h in
          let up : total ≤ m = least.1 xs m (subst (λ ks. IsPlacement ks xs m) same placed) in
          omega arith))
    ]

a_struct_size : (rules : RuleSet) (ms : Members) → AreFound rules ms → ((n : ℕ) × IsStructSize (HaveLayoutsBy rules ms) n) ⊎ HasNoSizeBy rules ms
a_struct_size rules ms h = elim (some_layouts rules ms h) [
  | inr u ↦ inr (unknown u)
  | inl ls ↦ elim (aligned_or_zero rules ms ls.0 ls.1) [ inl al ↦ sized_or_cause rules ms ls.0 ls.1 al | inr z ↦ inr (zero_align z) ]
]

mutual
  a_size : (rules : RuleSet) (t : WgslType) → Finds (HasSizeBy rules t)
  a_size rules (scalar s) = a_scalar_size s
  a_size rules (vec k t) = a_product k (HasSizeBy rules t) (one_size rules t) (a_size rules t)
  a_size rules (mat c r t) = a_product c (IsVectorAlignBy rules r t (HasSizeBy rules t)) (one_vector_align rules r t (HasSizeBy rules t) (one_size rules t)) (a_vector_align rules r t (HasSizeBy rules t) (one_size rules t) (a_size rules t))
  a_size rules (array k t) = an_array_size k (IsStride (HasSizeBy rules t) (HasAlignmentBy rules t)) (one_stride (HasSizeBy rules t) (HasAlignmentBy rules t) (one_size rules t) (one_align rules t)) (a_stride (HasSizeBy rules t) (HasAlignmentBy rules t) (one_size rules t) (one_align rules t) (a_size rules t) (an_alignment rules t))
  a_size rules (atomic t) = an_atomic_size t
  a_size rules (struct name ms) = elim (a_struct_size rules ms (are_found rules ms)) [ inl n ↦ inl n | inr none ↦ inr (λ n h. never_both rules ms n h none) ]
  a_size rules t = inr (λ n h. h)

  an_alignment : (rules : RuleSet) (t : WgslType) → Finds (HasAlignmentBy rules t)
  an_alignment rules (scalar s) = a_scalar_size s
  an_alignment rules (vec k t) = a_vector_align rules k t (HasSizeBy rules t) (one_size rules t) (a_size rules t)
  an_alignment rules (mat c r t) = a_vector_align rules r t (HasSizeBy rules t) (one_size rules t) (a_size rules t)
  an_alignment rules (array k t) = an_alignment rules t
  an_alignment rules (atomic t) = an_atomic_size t
  an_alignment rules (struct name ms) = elim (some_alignments rules ms (are_found rules ms)) [ inl xs ↦ inl (greatest xs.0, (xs.0, xs.1, refl)) | inr none ↦ inr (λ n h. none h.0 h.1) ]
  an_alignment rules t = inr (λ n h. h)

  are_found : (rules : RuleSet) (ms : Members) → AreFound rules ms
  are_found rules no_members = tt
  are_found rules (member name t size align ms) = (a_given size (HasSizeBy rules t) (a_size rules t), a_given align (HasAlignmentBy rules t) (an_alignment rules t), are_found rules ms)

-- The answers

pub exact_size : (rules : RuleSet) (t : WgslType) → (r : Option ℕ) × IsExactly r (HasSizeBy rules t)
exact_size rules t = exactly (HasSizeBy rules t) (one_size rules t) (a_size rules t)

pub exact_alignment : (rules : RuleSet) (t : WgslType) → (r : Option ℕ) × IsExactly r (HasAlignmentBy rules t)
exact_alignment rules t = exactly (HasAlignmentBy rules t) (one_align rules t) (an_alignment rules t)

pub size_or_cause : (rules : RuleSet) (ms : Members) → ((n : ℕ) × IsStructSize (HaveLayoutsBy rules ms) n) ⊎ HasNoSizeBy rules ms
size_or_cause rules ms = a_struct_size rules ms (are_found rules ms)

-- each member at the first offset that its alignment allows
first_offsets : (rules : RuleSet) (ms : Members) (n : ℕ) (s : IsStructSize (HaveLayoutsBy rules ms) n) → AreOffsetsBy rules ms (starts 0 s.layouts)
first_offsets rules ms n s =
    let al : Aligned s.layouts = all_aligned s.layouts s.aligned in
    let z : 0 ≤ 0 = omega arith in
    record {
      total = n;
      sized = s;
      placed = (laid 0 s.layouts n al (no_less 0 0 s.layouts s.least.0.0 n al z s.least.0.1.0), s.least.0.1.1);
      least = λ others more placement k. no_earlier 0 0 s.layouts others more al z placement.0 k;
    }

pub offsets_or_cause : (rules : RuleSet) (ms : Members) → ((offsets : List ℕ) × AreOffsetsBy rules ms offsets) ⊎ HasNoSizeBy rules ms
offsets_or_cause rules ms = elim (size_or_cause rules ms) [
  | inl n ↦ inl (starts 0 (n.1).layouts, first_offsets rules ms n.0 n.1)
  | inr cause ↦ inr cause
]

-- a layout with any sizes and alignments of the members
pub record HasLayout (rules : RuleSet) (ms : Members) : Type 0 where
  pub offsets : List ℕ
  pub size : ℕ
  pub align : ℕ
  pub sized : IsStructSize (HaveLayoutsBy rules ms) size
  pub layout : IsStructLayoutBy rules ms sized.layouts offsets size align

pub layout_or_cause : (rules : RuleSet) (ms : Members) → HasLayout rules ms ⊎ HasNoSizeBy rules ms
layout_or_cause rules ms = elim (size_or_cause rules ms) [
  | inl n ↦ inl (let a = sized_is_aligned rules ms n.0 n.1 in record {
    offsets = starts 0 (n.1).layouts;
    size = n.0;
    align = a.0;
    sized = n.1;
    layout = record { members = (n.1).known; placed = first_offsets rules ms n.0 n.1; sized = n.1; aligned = a.1 };
  })
  | inr cause ↦ inr cause
]
