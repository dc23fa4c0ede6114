-- The rows of a binary operator by the kind of its operands, and what they return for value types.
use Rattle.std.proofs.Common.{◌≡◌, ℕ, ◌⊎◌, [], ◌∷◌, Some, None, sym, subst, inl, inr}
use Rattle.wgsl_rules.proofs.Common.{Bool, BinaryOperator, WgslType, scalar, vec, IsIntegerOrVector, IsScalar, IsVector, IsLeaf, IsValueType, IsCommon, operator, IsArithmetic, IsComparison, IsLogical, IsBitwise, IsOrAnd, IsShift, IsLeastCandidate, IsChosenAnswer, BinaryCandidate, HasCandidate}
use Rattle.wgsl_rules.specs.operators.Rows.{IsRow, scalar_row, scalar_vector_row, scalar_matrix_row, comparison_row, comparison_vector_row, logical_row, bools_row, bit_row, shift_row}
use Rattle.wgsl_rules.proofs.conversion.Commons.{common_once}
use Rattle.wgsl_rules.proofs.operators.Groups.{elements, Fits, IsShifted, arithmetic_needs, comparison_needs, logical_needs, bits_needs, shift_needs}
use Rattle.wgsl_rules.proofs.operators.Choices.{chosen_answer, refused_answer}
use Rattle.wgsl_rules.proofs.operators.ChosenRows.{row_chosen, row_refused}

pub apart : {a b c : WgslType} → IsCommon a b None → ¬ IsCommon a b (Some c)
apart {a} {b} {c} h k = absurd (cc (common_once a b None (Some c) h k))

-- arithmetic: no row applies without operands that fit, nor without a common type
pub unfit : {o : BinaryOperator} {a b : WgslType} → ¬ Fits o a b → IsArithmetic o → HasCandidate o a b None
unfit n h l r t k = n (arithmetic_needs h k).0

pub elements_apart : {o : BinaryOperator} {a b : WgslType} → IsCommon (elements a b).0 (elements a b).1 None → IsArithmetic o → HasCandidate o a b None
elements_apart n h l r t k = let m = arithmetic_needs h k in apart n m.2

-- comparison
pub not_compared : {o : BinaryOperator} {a b c : WgslType} → IsCommon a b (Some c) → ¬ (IsScalar c ⊎ IsVector c) → IsComparison o → HasCandidate o a b None
not_compared {o} {a} {b} {c} m n h l r t k =
    let x = comparison_needs h k in
    let e : c ≡ x.0 = cc (common_once a b (Some c) (Some x.0) m x.1) in
    n (subst (λ c. IsScalar c ⊎ IsVector c) (sym e) x.2)

pub compared_apart : {o : BinaryOperator} {a b : WgslType} → IsCommon a b None → IsComparison o → HasCandidate o a b None
compared_apart m h l r t k = let x = comparison_needs h k in apart m x.1

-- the short-circuit operators, `||` and `&&`
pub not_logical : {o : BinaryOperator} {a b : WgslType} → ¬ ((a ≡ scalar Bool) × (b ≡ scalar Bool)) → IsLogical o → HasCandidate o a b None
not_logical n h l r t k = n (logical_needs h k)

-- bits
pub no_bits : {o : BinaryOperator} {a b c : WgslType} → IsCommon a b (Some c) → ¬ IsIntegerOrVector c → ¬ (IsOrAnd o × (n : ℕ) × (c ≡ vec n (scalar Bool))) → IsBitwise o → HasCandidate o a b None
no_bits {o} {a} {b} {c} m i v h l r t k =
    let x = bits_needs h k in
    let e : c ≡ x.0 = cc (common_once a b (Some c) (Some x.0) m x.1) in
    elim (subst (λ c. IsIntegerOrVector c ⊎ (IsOrAnd o × (n : ℕ) × (c ≡ vec n (scalar Bool)))) (sym e) x.2) [ inl y ↦ i y | inr y ↦ v y ]

pub bits_apart : {o : BinaryOperator} {a b : WgslType} → IsCommon a b None → IsBitwise o → HasCandidate o a b None
bits_apart m h l r t k = let x = bits_needs h k in apart m x.1

-- shifts
pub not_shifted : {o : BinaryOperator} {a b : WgslType} → ¬ IsShifted a b → IsShift o → HasCandidate o a b None
not_shifted n h l r t k = n (shift_needs h k)

-- for value types a row is the least candidate, and without a row no candidate takes the operands
pub chosen : {o : BinaryOperator} {a b : WgslType} (c : BinaryCandidate) → HasCandidate o a b (Some c) → IsValueType a → IsValueType b →
    IsLeastCandidate (operator o) (a ∷ b ∷ []) (c.lhs ∷ c.rhs ∷ []) c.result
chosen c k va vb = row_chosen k va vb

pub result_chosen : {o : BinaryOperator} {a b : WgslType} (c : BinaryCandidate) → HasCandidate o a b (Some c) → IsValueType a → IsValueType b →
    IsChosenAnswer (operator o) (a ∷ b ∷ []) (Some c.result)
result_chosen c k va vb = chosen_answer (row_chosen k va vb)

pub nothing_chosen : {o : BinaryOperator} {a b : WgslType} → HasCandidate o a b None → IsValueType a → IsValueType b → IsChosenAnswer (operator o) (a ∷ b ∷ []) None
nothing_chosen {o} {a} {b} n va vb = refused_answer (row_refused o a b va vb n)

-- for two scalars all types are leaf types

common_leaf : (a b : WgslType) {c : WgslType} → IsScalar a → IsScalar b → IsCommon a b (Some c) → IsLeaf c
common_leaf (scalar s) (scalar t) x y (inl k) = subst IsLeaf (sym k.1) tt
common_leaf (scalar s) (scalar t) x y (inr k) = subst IsLeaf (sym k.2) tt
common_leaf (scalar s) b x y k = absurd y
common_leaf a b x y k = absurd x

pub scalars_are_leaves : {o : BinaryOperator} {a b l r t : WgslType} → IsRow o a b l r t → IsScalar a → IsScalar b → IsLeaf l × IsLeaf r × IsLeaf t
scalars_are_leaves (scalar_row o h s t c k) x y = let f = common_leaf (scalar s) (scalar t) x y k in (f, f, f)
scalars_are_leaves (scalar_vector_row o h s n e c k) x y = absurd y
scalars_are_leaves (scalar_matrix_row s c r e d k) x y = absurd y
scalars_are_leaves (comparison_row o h a b s k) x y = (tt, tt, tt)
scalars_are_leaves (comparison_vector_row o h a b n e k) x y = absurd (common_leaf a b x y k)
scalars_are_leaves (logical_row o h) x y = (tt, tt, tt)
scalars_are_leaves (bools_row o h n a b k) x y = absurd (common_leaf a b x y k)
scalars_are_leaves (bit_row o h a b c k i) x y = let f = common_leaf a b x y k in (f, f, f)
scalars_are_leaves (shift_row o h i k t m) x y = (tt, tt, tt)
scalars_are_leaves _ x y = absurd x
