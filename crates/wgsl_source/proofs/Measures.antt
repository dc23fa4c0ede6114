-- The size and the alignment of a type, from those of its scalar or of its element.
use Rattle.std.proofs.Common.{◌≡◌, ◌≢◌, ℕ, inl, inr, Option, sym, subst, ◌∙◌}
use Rattle.wgsl_source.proofs.Common.{Standard, mat, scalar, vec, HasAlignmentBy, HasSizeBy, IsArraySize, IsExactly, IsScalarSize, IsTimes, array_size, times, IsValue, IsMeasure, IsMeasureOf, IsStrideOf, known_count, Count, MeasuredType}
use Rattle.wgsl_syntax.specs.declared.scalar.Scalar.{Scalar}

-- from a number that equals the one that was computed with
times_of : (k j : ℕ) (o r : Option ℕ) (S : ℕ → Type 0) → j ≡ k → IsExactly o S → IsExactly r (IsTimes j (IsValue o)) → IsExactly r (IsTimes k S)
times_of k j o r S same of is = times k o r S of (subst (λ (x : ℕ). IsExactly r (IsTimes x (IsValue o))) same is)

given : (m o : Option ℕ) (S : ℕ → Type 0) → m ≡ o → IsExactly o S → IsExactly m S
given m o S same is = subst (λ (x : Option ℕ). IsExactly x S) (sym same) is

-- the alignment of a vector of n scalars
abbrev IsAlign : ℕ → Scalar → ℕ → Type 0
IsAlign n s = HasAlignmentBy Standard (vec n (scalar s))

pub align_of_three : (n : ℕ) (s : Scalar) (o r : Option ℕ) → n ≡ 3 → IsExactly o (IsScalarSize s) → IsExactly r (IsTimes 4 (IsValue o)) → IsExactly r (IsAlign n s)
align_of_three n s o r three of is a =
    let known = times 4 o r (IsScalarSize s) of is in
    (λ e. inl (three, (known a).0 e), λ h. (known a).1 (counted h))
  where
    counted : IsAlign n s a → IsTimes 4 (IsScalarSize s) a
    counted (inl h) = h.1
    counted (inr h) = absurd (h.0 three)

pub align_of_others : (n k : ℕ) (s : Scalar) (o r : Option ℕ) → n ≢ 3 → k ≡ n → IsExactly o (IsScalarSize s) → IsExactly r (IsTimes k (IsValue o)) → IsExactly r (IsAlign n s)
align_of_others n k s o r other same of is a =
    let known = times_of n k o r (IsScalarSize s) same of is in
    (λ e. inr (other, (known a).0 e), λ h. (known a).1 (counted h))
  where
    counted : IsAlign n s a → IsTimes n (IsScalarSize s) a
    counted (inl h) = absurd (other h.0)
    counted (inr h) = h.1

pub vector_measure : (n k : ℕ) (s : Scalar) (component size align : Option ℕ) (m : MeasuredType) → k ≡ n → IsExactly component (IsScalarSize s)
    → IsExactly size (IsTimes k (IsValue component)) → IsExactly align (IsAlign n s) → m.size ≡ size → m.align ≡ align → IsMeasureOf (vec n (scalar s)) m
vector_measure n k s component size align m same of is_size is_align sized aligned = record {
  size = given m.size size (IsTimes n (IsScalarSize s)) sized (times_of n k component size (IsScalarSize s) same of is_size);
  align = given m.align align (IsAlign n s) aligned is_align;
}

pub matrix_measure : (c r k : ℕ) (s : Scalar) (align size : Option ℕ) (m : MeasuredType) → k ≡ c → IsExactly align (IsAlign r s)
    → IsExactly size (IsTimes k (IsValue align)) → m.size ≡ size → m.align ≡ align → IsMeasureOf (mat c r (scalar s)) m
matrix_measure c r k s align size m same of is_size sized aligned = record {
  size = given m.size size (HasSizeBy Standard (mat c r (scalar s))) sized (times_of c k align size (IsAlign r s) same of is_size);
  align = given m.align align (IsAlign r s) aligned of;
}

pub array_measure : (count : Count) (element : MeasuredType) (known stride size : Option ℕ) (m : MeasuredType) → known ≡ known_count count → IsExactly stride (IsStrideOf element)
    → IsExactly size (IsArraySize known (IsValue stride)) → m.size ≡ size → m.align ≡ element.align → IsMeasure (IsArraySize (known_count count) (IsStrideOf element)) (IsValue element.align) m
array_measure count element known stride size m same of is_size sized aligned = record {
  size = given m.size size (IsArraySize (known_count count) (IsStrideOf element)) sized (subst (λ (k : Option ℕ). IsExactly size (IsArraySize k (IsStrideOf element))) same (array_size known stride size (IsStrideOf element) of is_size));
  align = λ n. (λ e. sym aligned ∙ e, λ e. aligned ∙ e);
}
