-- A matrix is laid out as an array of its columns: the stride of a column is its alignment.
use Rattle.std.proofs.Common.{◌≡◌, ◌↔◌, ℕ, ◌*◌, ◌<◌, ◌≤◌, ◌^◌, inl, inr, Some, refl, sym, ap, subst, lit<, arith}
use Rattle.wgsl_rules.proofs.Common.{dvd_refl, le_of_dvd, RuleSet, Ported, Standard, Scalar, AbstractInt, AbstractFloat, I32, U32, F32, F16, scalar, array, vec, mat}
use Rattle.std.proofs.Math.Nat.{mul-pos}
use Rattle.wgsl_rules.specs.layout.Layout.{IsScalarSize, IsTimes, IsRoundedUp, IsStride, IsAlignOfThreeBy, IsVectorAlignBy, HasSizeBy}
use Rattle.wgsl_rules.proofs.layout.OneSize.{one_times, one_stride, one_vector_align, one_size}

scalar_size : (s : Scalar) (n : ℕ) → IsScalarSize s n → 0 < n
scalar_size AbstractInt n h = absurd h
scalar_size AbstractFloat n h = absurd h
scalar_size s n h = omega arith

-- b is s rounded up to b
rounds_to : (s b : ℕ) → 0 < s → s ≤ b → IsRoundedUp s b b
rounds_to s b pos le = (omega arith, dvd_refl b, le, λ m d more. let m_pos : 0 < m = omega arith in le_of_dvd m_pos d)

abbrev IsColumn : Scalar → ℕ → ℕ → Type 0
IsColumn s r = IsTimes r (IsScalarSize s)

abbrev IsColumnAlign : RuleSet → Scalar → ℕ → ℕ → Type 0
IsColumnAlign rules s r = IsVectorAlignBy rules r (scalar s) (IsScalarSize s)

three : (rules : RuleSet) (s : Scalar) (r n b : ℕ) → r ≡ 3 → IsScalarSize s n → IsAlignOfThreeBy rules (scalar s) (IsScalarSize s) b → 0 < 3 * n → 3 * n ≤ b → b < 2 ^ 32 → IsStride (IsColumn s r) (IsColumnAlign rules s r) b
three rules s r n b e size align pos le fits = (3 * n, b, (n, size, ap (λ (x : ℕ). x * n) (sym e), omega arith), inl (e, align), rounds_to (3 * n) b pos le, fits)

of_three : (rules : RuleSet) (s : Scalar) (r a : ℕ) → r ≡ 3 → IsAlignOfThreeBy rules (scalar s) (IsScalarSize s) a → IsStride (IsColumn s r) (IsColumnAlign rules s r) a
of_three Ported I32 r a e h = three Ported I32 r 4 a e refl h (lit< tt) (omega arith) (omega arith)
of_three Ported U32 r a e h = three Ported U32 r 4 a e refl h (lit< tt) (omega arith) (omega arith)
of_three Ported F32 r a e h = three Ported F32 r 4 a e refl h (lit< tt) (omega arith) (omega arith)
of_three Ported F16 r a e h = three Ported F16 r 2 a e refl h (lit< tt) (omega arith) (omega arith)
of_three Ported s r a e h = absurd h
of_three Standard s r a e h =
    let positive : 0 < h.0 = scalar_size s h.0 h.1 in
    let is : a ≡ 4 * h.0 = h.2 in
    three Standard s r h.0 a e h.1 h (omega arith) (omega arith) h.3

stride_of_column : (rules : RuleSet) (s : Scalar) (r a : ℕ) → 0 < r → IsColumnAlign rules s r a → IsStride (IsColumn s r) (IsColumnAlign rules s r) a
stride_of_column rules s r a pos (inl h) = of_three rules s r a h.0 h.1
stride_of_column rules s r a pos (inr h) =
    let product : 0 < r * h.1.0 = mul-pos pos (scalar_size s h.1.0 h.1.1) in
    let is : a ≡ r * h.1.0 = h.1.2 in
    (a, a, h.1, inr h, rounds_to a a (subst (λ (x : ℕ). 0 < x) (sym is) product) (let same : a ≤ a = omega arith in same), h.1.3)

align_of_column : (rules : RuleSet) (s : Scalar) (r n : ℕ) → 0 < r → IsStride (IsColumn s r) (IsColumnAlign rules s r) n → IsColumnAlign rules s r n
align_of_column rules s r n pos h =
    let one = one_size rules (scalar s) in
    let same : h.1 ≡ n = one_stride (IsColumn s r) (IsColumnAlign rules s r) (one_times r (IsScalarSize s) one) (one_vector_align rules r (scalar s) (IsScalarSize s) one) h.1 n (stride_of_column rules s r h.1 pos h.3) h in
    subst (λ (x : ℕ). IsColumnAlign rules s r x) same h.3

pub columns_law : (rules : RuleSet) (s : Scalar) (c r : ℕ) → 0 < r → c < 2 ^ 32 → (n : ℕ) → HasSizeBy rules (mat c r (scalar s)) n ↔ HasSizeBy rules (array (Some c) (vec r (scalar s))) n
columns_law rules s c r pos small n = (
  λ h. (small, (h.0, stride_of_column rules s r h.0 pos h.1, h.2, h.3)),
  λ h. (h.1.0, align_of_column rules s r h.1.0 pos h.1.1, h.1.2, h.1.3),
)
