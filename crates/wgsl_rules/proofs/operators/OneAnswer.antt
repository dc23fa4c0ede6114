-- An operator has at most one answer, whatever its operands.
use Rattle.std.proofs.Common.{◌≡◌, Some, Result, Ok, Err, refl, sym, ap, subst, ◌∙◌}
use Rattle.wgsl_rules.proofs.Common.{Bool, BinaryOperator, AddressOf, Indirection, vec_of, mat_of, WgslType, scalar, within, pointer, reference, vec, mat, IsCommon, Refusal, IsOperatorAnswer, IsUnaryAnswer}
use Rattle.wgsl_syntax.specs.declared.operator.UnaryOperator.{UnaryOperator}
use Rattle.wgsl_rules.specs.operators.Rows.{IsRow, scalar_row, vector_row, scalar_vector_row, vector_scalar_row, matrix_row, scalar_matrix_row, matrix_scalar_row, vector_matrix_row, matrix_vector_row, matrix_matrix_row, comparison_row, comparison_vector_row, logical_row, bools_row, bit_row, shift_row, shift_vector_row}
use Rattle.wgsl_rules.specs.operators.UnaryRows.{IsUnaryRow, not_row}
use Rattle.wgsl_rules.proofs.conversion.Commons.{common_once}
use Rattle.wgsl_rules.proofs.operators.Groups.{Group, logicals, arithmetics, comparisons, bits, shifts, group, logicals_group, arithmetics_group, comparisons_group, bits_group, or_and_group, shifts_group, sums_group, elements}

-- what an arithmetic row returns if the common type of the elements is c
abbrev arithmetic_result : WgslType → WgslType → WgslType → WgslType
arithmetic_result (scalar s) (within l e) c = within l c
arithmetic_result (within l e) (scalar s) c = within l c
arithmetic_result (within (vec_of n) e) (within (mat_of k r) f) c = vec k c
arithmetic_result (within (mat_of k r) e) (within (vec_of n) f) c = vec r c
arithmetic_result (within (mat_of k r) e) (within (mat_of d s) f) c = mat d r c
arithmetic_result a b c = c

-- what a comparison returns if the common type of the operands is c
abbrev comparison_result : WgslType → WgslType
comparison_result (within (vec_of n) e) = vec n (scalar Bool)
comparison_result c = scalar Bool

-- what a row of each group returns
abbrev Returns : Group → WgslType → WgslType → WgslType → Type 0
Returns logicals a b t = t ≡ scalar Bool
Returns arithmetics a b t = (c : WgslType) × IsCommon (elements a b).0 (elements a b).1 (Some c) × (t ≡ arithmetic_result a b c)
Returns comparisons a b t = (c : WgslType) × IsCommon a b (Some c) × (t ≡ comparison_result c)
Returns bits a b t = IsCommon a b (Some t)
Returns shifts a b t = t ≡ a

-- a row belongs to one group, and returns what the group does
row_returns : {o : BinaryOperator} {a b l r t : WgslType} → IsRow o a b l r t → (g : Group) × (group o ≡ g) × Returns g a b t
row_returns (scalar_row o h s t c k) = (arithmetics, arithmetics_group o h, (c, k, refl))
row_returns (vector_row o h n m e f c k) = (arithmetics, arithmetics_group o h, (c, k, refl))
row_returns (scalar_vector_row o h s n e c k) = (arithmetics, arithmetics_group o h, (c, k, refl))
row_returns (vector_scalar_row o h n e s c k) = (arithmetics, arithmetics_group o h, (c, k, refl))
row_returns (matrix_row o h c r e f d k) = (arithmetics, sums_group o h, (d, k, refl))
row_returns (scalar_matrix_row s c r e d k) = (arithmetics, refl, (d, k, refl))
row_returns (matrix_scalar_row c r e s d k) = (arithmetics, refl, (d, k, refl))
row_returns (vector_matrix_row c r e f d k) = (arithmetics, refl, (d, k, refl))
row_returns (matrix_vector_row c r e f d k) = (arithmetics, refl, (d, k, refl))
row_returns (matrix_matrix_row k c r e f d m) = (arithmetics, refl, (d, m, refl))
row_returns (comparison_row o h a b s k) = (comparisons, comparisons_group o h, (scalar s, k, refl))
row_returns (comparison_vector_row o h a b n e k) = (comparisons, comparisons_group o h, (vec n e, k, refl))
row_returns (logical_row o h) = (logicals, logicals_group o h, refl)
row_returns (bools_row o h n a b k) = (bits, or_and_group o h, k)
row_returns (bit_row o h a b c k i) = (bits, bits_group o h, k)
row_returns (shift_row o h i k t m) = (shifts, shifts_group o h, refl)
row_returns (shift_vector_row o h n i k t m) = (shifts, shifts_group o h, refl)

some_common_once : (a b c d : WgslType) → IsCommon a b (Some c) → IsCommon a b (Some d) → c ≡ d
some_common_once a b c d h k = let e : Some c ≡ Some d = common_once a b (Some c) (Some d) h k in cc e

returns_once : (g : Group) (a b t u : WgslType) → Returns g a b t → Returns g a b u → t ≡ u
returns_once logicals a b t u h k = h ∙ sym k
returns_once arithmetics a b t u h k =
    h.2 ∙ (ap (arithmetic_result a b) (some_common_once (elements a b).0 (elements a b).1 h.0 k.0 h.1 k.1) ∙ sym k.2)
returns_once comparisons a b t u h k = h.2 ∙ (ap comparison_result (some_common_once a b h.0 k.0 h.1 k.1) ∙ sym k.2)
returns_once bits a b t u h k = some_common_once a b t u h k
returns_once shifts a b t u h k = h ∙ sym k

row_once : {o : BinaryOperator} {a b l r t m s u : WgslType} → IsRow o a b l r t → IsRow o a b m s u → t ≡ u
row_once {a} {b} {t} {u} h k =
    let p = row_returns h in
    let q = row_returns k in
    returns_once q.0 a b t u (subst (λ g. Returns g a b t) (sym p.1 ∙ q.1) p.2) q.2

pub operator_answer_once : (o : BinaryOperator) (a b : WgslType) (r s : Result WgslType Refusal) → IsOperatorAnswer o a b r → IsOperatorAnswer o a b s → r ≡ s
operator_answer_once o a b (Ok t) (Ok u) h k = ap Ok (row_once h.2 k.2)
operator_answer_once o a b (Ok t) (Err e) h k = absurd (k.1 h.0 h.1 t h.2)
operator_answer_once o a b (Err e) (Ok u) h k = absurd (h.1 k.0 k.1 u k.2)
operator_answer_once o a b (Err d) (Err e) h k = ap Err (h.0 ∙ sym k.0)

-- what a row of a unary operator returns
abbrev unary_result : UnaryOperator → WgslType → WgslType
unary_result AddressOf (reference s t m) = pointer s t m
unary_result Indirection (pointer s t m) = reference s t m
unary_result o t = t

unary_row_returns : {o : UnaryOperator} {t u : WgslType} → IsUnaryRow o t u → u ≡ unary_result o t
unary_row_returns not_row = refl
unary_row_returns _ = refl

pub unary_answer_once : (o : UnaryOperator) (t : WgslType) (r s : Result WgslType Refusal) → IsUnaryAnswer o t r → IsUnaryAnswer o t s → r ≡ s
unary_answer_once o t (Ok u) (Ok v) h k = ap Ok (unary_row_returns h ∙ sym (unary_row_returns k))
unary_answer_once o t (Ok u) (Err e) h k = absurd (k.1 u h)
unary_answer_once o t (Err e) (Ok v) h k = absurd (h.1 v k)
unary_answer_once o t (Err d) (Err e) h k = ap Err (h.0 ∙ sym k.0)
