-- A type has at most one size and one alignment.
use Rattle.std.proofs.Common.{◌≡◌, ℕ, ◌*◌, ◌≤◌, ◌↔◌, inl, inr, List, [], ◌∷◌, Option, Some, None, refl, sym, ap, subst, ◌∙◌, arith}
use Rattle.wgsl_rules.proofs.Common.{RuleSet, Ported, Standard, Scalar, AbstractInt, AbstractFloat, I32, U32, F32, F16, I64, WgslType, scalar, struct, atomic, Members, no_members, member, array, vec, mat, MemberLayout, IsLeastTotal, greatest, IsLeastPlacedSize}
use Rattle.wgsl_rules.specs.layout.Layout.{IsScalarSize, IsAtomicSize, IsTimes, IsRoundedUp, IsStride, IsArraySize, IsAlignOfThreeBy, IsVectorAlignBy, IsGiven, IsStructSize, IsStructAlign, HasSizeBy, HasAlignmentBy, HaveLayouts, HaveLayoutsBy, HaveAlignmentsBy, IsExactly, HasNoSize}
use Rattle.wgsl_rules.proofs.layout.Placing.{same_least}

abbrev pub IsOne : (ℕ → Type 0) → Type 0
IsOne P = (m n : ℕ) → P m → P n → m ≡ n

one_scalar : (s : Scalar) → IsOne (IsScalarSize s)
one_scalar AbstractInt m n a b = absurd a
one_scalar AbstractFloat m n a b = absurd a
one_scalar s m n a b = a ∙ sym b

one_atomic : (t : WgslType) → IsOne (IsAtomicSize t)
one_atomic (scalar I64) m n a b = a ∙ sym b
one_atomic _ m n a b = a ∙ sym b

pub one_times : (k : ℕ) (S : ℕ → Type 0) → IsOne S → IsOne (IsTimes k S)
one_times k S one m n a b = a.2 ∙ ap (λ (x : ℕ). k * x) (one a.0 b.0 a.1 b.1) ∙ sym b.2

pub one_stride : (S A : ℕ → Type 0) → IsOne S → IsOne A → IsOne (IsStride S A)
one_stride S A s a m n x y =
    let size : x.0 ≡ y.0 = s x.0 y.0 x.2 y.2 in
    let align : x.1 ≡ y.1 = a x.1 y.1 x.3 y.3 in
    let r : IsRoundedUp y.0 y.1 m = subst (λ (d : ℕ). IsRoundedUp y.0 d m) align (subst (λ (d : ℕ). IsRoundedUp d x.1 m) size x.4) in
    let up : m ≤ n = r.3 n y.4.1 y.4.2 in
    let down : n ≤ m = y.4.3 m r.1 r.2 in
    omega arith

one_array : (k : Option ℕ) (S : ℕ → Type 0) → IsOne S → IsOne (IsArraySize k S)
one_array (Some k) S one m n a b = one_times k S one m n a.1 b.1
one_array None S one m n a b = absurd a

one_of_three : (rules : RuleSet) (t : WgslType) (S : ℕ → Type 0) → IsOne S → IsOne (IsAlignOfThreeBy rules t S)
one_of_three Ported (scalar I32) S one m n a b = a ∙ sym b
one_of_three Ported (scalar U32) S one m n a b = a ∙ sym b
one_of_three Ported (scalar F32) S one m n a b = a ∙ sym b
one_of_three Ported (scalar F16) S one m n a b = a ∙ sym b
one_of_three Ported t S one m n a b = absurd a
one_of_three Standard t S one m n a b = one_times 4 S one m n a b

pub one_vector_align : (rules : RuleSet) (k : ℕ) (t : WgslType) (S : ℕ → Type 0) → IsOne S → IsOne (IsVectorAlignBy rules k t S)
one_vector_align rules k t S one m n (inl a) (inl b) = one_of_three rules t S one m n a.1 b.1
one_vector_align rules k t S one m n (inl a) (inr b) = absurd (b.0 a.0)
one_vector_align rules k t S one m n (inr a) (inl b) = absurd (a.0 b.0)
one_vector_align rules k t S one m n (inr a) (inr b) = one_times k S one m n a.1 b.1

pub one_given : (x : Option ℕ) (P : ℕ → Type 0) → IsOne P → IsOne (IsGiven x P)
one_given (Some x) P one m n a b = a ∙ sym b
one_given None P one m n a b = one m n a b

one_struct : (P : List MemberLayout → Type 0) → ((ps qs : List MemberLayout) → P ps → P qs → ps ≡ qs) → IsOne (IsStructSize P)
one_struct P one m n a b =
    let e : a.layouts ≡ b.layouts = one a.layouts b.layouts a.known b.known in
    same_least b.layouts m n (subst (λ ps. IsLeastTotal ps m) e a.least) b.least

one_greatest : (A : List ℕ → Type 0) → ((xs ys : List ℕ) → A xs → A ys → xs ≡ ys) → IsOne (IsStructAlign A)
one_greatest A one m n a b = a.2 ∙ ap greatest (one a.0 b.0 a.1 b.1) ∙ sym b.2

same_layout : (p q : MemberLayout) → p.size ≡ q.size → p.align ≡ q.align → p ≡ q
same_layout p q s a = ap (λ x. record { size = x; align = p.align }) s ∙ ap (λ x. record { size = q.size; align = x }) a

mutual
  pub one_size : (rules : RuleSet) (t : WgslType) (m n : ℕ) → HasSizeBy rules t m → HasSizeBy rules t n → m ≡ n
  one_size rules (scalar s) m n a b = one_scalar s m n a b
  one_size rules (vec k t) m n a b = one_times k (HasSizeBy rules t) (one_size rules t) m n a b
  one_size rules (mat c r t) m n a b = one_times c (IsVectorAlignBy rules r t (HasSizeBy rules t)) (one_vector_align rules r t (HasSizeBy rules t) (one_size rules t)) m n a b
  one_size rules (array k t) m n a b = one_array k (IsStride (HasSizeBy rules t) (HasAlignmentBy rules t)) (one_stride (HasSizeBy rules t) (HasAlignmentBy rules t) (one_size rules t) (one_align rules t)) m n a b
  one_size rules (atomic t) m n a b = one_atomic t m n a b
  one_size rules (struct name ms) m n a b = one_struct (HaveLayoutsBy rules ms) (one_layouts rules ms) m n a b
  one_size rules t m n a b = absurd a

  pub one_align : (rules : RuleSet) (t : WgslType) (m n : ℕ) → HasAlignmentBy rules t m → HasAlignmentBy rules t n → m ≡ n
  one_align rules (scalar s) m n a b = one_scalar s m n a b
  one_align rules (vec k t) m n a b = one_vector_align rules k t (HasSizeBy rules t) (one_size rules t) m n a b
  one_align rules (mat c r t) m n a b = one_vector_align rules r t (HasSizeBy rules t) (one_size rules t) m n a b
  one_align rules (array k t) m n a b = one_align rules t m n a b
  one_align rules (atomic t) m n a b = one_atomic t m n a b
  one_align rules (struct name ms) m n a b = one_greatest (HaveAlignmentsBy rules ms) (one_aligns rules ms) m n a b
  one_align rules t m n a b = absurd a

  pub one_layouts : (rules : RuleSet) (ms : Members) (ps qs : List MemberLayout) → HaveLayoutsBy rules ms ps → HaveLayoutsBy rules ms qs → ps ≡ qs
  one_layouts rules no_members [] [] a b = refl
  one_layouts rules no_members [] (q ∷ qs) a b = absurd b
  one_layouts rules no_members (p ∷ ps) qs a b = absurd a
  one_layouts rules (member name t size align ms) [] qs a b = absurd a
  one_layouts rules (member name t size align ms) (p ∷ ps) [] a b = absurd b
  one_layouts rules (member name t size align ms) (p ∷ ps) (q ∷ qs) a b =
      ap (λ x. x ∷ ps) (same_layout p q (one_given size (HasSizeBy rules t) (one_size rules t) p.size q.size a.0 b.0) (one_given align (HasAlignmentBy rules t) (one_align rules t) p.align q.align a.1 b.1))
      ∙ ap (λ xs. q ∷ xs) (one_layouts rules ms ps qs a.2 b.2)

  one_aligns : (rules : RuleSet) (ms : Members) (xs ys : List ℕ) → HaveAlignmentsBy rules ms xs → HaveAlignmentsBy rules ms ys → xs ≡ ys
  one_aligns rules no_members [] [] a b = refl
  one_aligns rules no_members [] (y ∷ ys) a b = absurd b
  one_aligns rules no_members (x ∷ xs) ys a b = absurd a
  one_aligns rules (member name t size align ms) [] ys a b = absurd a
  one_aligns rules (member name t size align ms) (x ∷ xs) [] a b = absurd b
  one_aligns rules (member name t size align ms) (x ∷ xs) (y ∷ ys) a b =
      ap (λ z. z ∷ xs) (one_given align (HasAlignmentBy rules t) (one_align rules t) x y a.0 b.0) ∙ ap (λ zs. y ∷ zs) (one_aligns rules ms xs ys a.1 b.1)

-- A struct's size is the least total for any list of its members' sizes and alignments, since there is only one.
pub least_placed : (ms : Members) (r : Option ℕ) → IsExactly r (IsStructSize (HaveLayouts ms)) → (r ≡ None) ↔ HasNoSize ms → IsLeastPlacedSize ms r
least_placed ms r is lacks = record { exact = is; least = of_layouts; none = lacks }
  where
    of_layouts : (n : ℕ) (layouts : List MemberLayout) → r ≡ Some n → HaveLayouts ms layouts → IsLeastTotal layouts n
    of_layouts n layouts e k = let s = (is n).0 e in subst (λ ps. IsLeastTotal ps n) (one_layouts Ported ms s.layouts layouts s.known k) s.least
