-- The rank of a conversion, the common type of a list, and what an operator returns, or its refusal.
use Rattle.wgsl_syntax.specs.declared.scalar.Scalar.TheVariants.{Bool}
use Rattle.wgsl_lines.proofs.Common.{◌≡◌, ℕ, List, [], ◌∷◌, Option, Some, None, subst, WgslType, IsLeftCommon, Receives, left_common_once, some_left_common}
use Rattle.wgsl_lines.proofs.Common.{receives_nil, receives_cons, receives_head, receives_tail, dec_converts, ◌⊎◌, Result, Ok, Err, refl, sym, inl, inr}
use Rattle.wgsl_lines.proofs.Common.{ℕ_discrete, Handle, U32, vec_of, mat_of, scalar, within, pointer, reference, vec, mat, Refusal, unary, binary}
use Rattle.wgsl_lines.proofs.Common.{ptr_handle, IsCommon, some_common, both, same_type}
use Rattle.wgsl_rules.specs.conversion.Conversion.{Converts}
use Rattle.wgsl_rules.specs.layout.Layout.{IsExactly}
use Rattle.wgsl_requests.specs.Answers.{IsReceivedCommon}
use Rattle.wgsl_rules.proofs.conversion.Equations.{rank, rank_converts}
use Rattle.wgsl_syntax.specs.declared.operator.BinaryOperator.{BinaryOperator}
use Rattle.wgsl_syntax.specs.declared.operator.BinaryOperator.TheVariants.{ShortCircuitOr, ShortCircuitAnd, Addition, Subtraction, Multiplication, Division, Remainder, BitwiseOr, BitwiseAnd, BitwiseXor, ShiftLeft, ShiftRight}
use Rattle.wgsl_syntax.specs.declared.operator.UnaryOperator.{UnaryOperator}
use Rattle.wgsl_syntax.specs.declared.operator.UnaryOperator.TheVariants.{LogicalNegation, Negation, BitwiseComplement, AddressOf, Indirection}
use Rattle.wgsl_rules.specs.operators.Answers.{BinaryCandidate, HasCandidate, IsUnaryAnswer, IsOperatorAnswer}
use Rattle.wgsl_rules.specs.operators.Candidates.{IsArithmetic, IsSum, IsComparison, IsLogical, IsBitwise, IsOrAnd, IsShift}
use Rattle.wgsl_rules.specs.operators.Rows.{IsRow, scalar_row, vector_row, scalar_vector_row, vector_scalar_row, matrix_row, scalar_matrix_row, matrix_scalar_row, vector_matrix_row, matrix_vector_row, matrix_matrix_row, comparison_row, comparison_vector_row, logical_row, bools_row, bit_row, shift_row, shift_vector_row}
use Rattle.wgsl_rules.specs.operators.UnaryRows.{not_row, not_vector_row, negation_row, complement_row, address_row, indirection_row}
use Rattle.wgsl_rules.proofs.operators.Groups.{Fits, IsShifted, elements}
use Rattle.wgsl_rules.proofs.operators.Rows.{unfit, elements_apart, not_compared, compared_apart, not_logical, no_bits, bits_apart, not_shifted}
use Rattle.wgsl_rules.proofs.operators.Unary.{not_negated, not_opposed, not_complemented, no_handle, not_addressed, not_pointed}
use Rattle.wgsl_lines.proofs.Shapes.{all_three, dec_integer, dec_integer_or_vector, either}

pub a_rank : (t u : WgslType) → (w : Option ℕ) × IsExactly w (Converts t u)
a_rank t u = (rank t u, rank_converts t u)

pub dec_receives : (u : WgslType) (ts : List WgslType) → Dec (Receives u ts)
dec_receives u [] = yes (receives_nil u)
dec_receives u (t ∷ ts) = elim (dec_converts t u) [
  | no n ↦ no (λ h. n (receives_head u t ts h))
  | yes c ↦ elim (dec_receives u ts) [ no n ↦ no (λ h. n (receives_tail u t ts h)) | yes h ↦ yes (receives_cons u t ts c h) ]
]

pub a_received : (ts : List WgslType) → (c : Option WgslType) × IsReceivedCommon ts c
a_received ts = let c = some_left_common ts in received c.0 c.1
  where
    received : (c : Option WgslType) → IsLeftCommon ts c → (c : Option WgslType) × IsReceivedCommon ts c
    received None h = (None, λ t k r. let e : None ≡ Some t = left_common_once ts None (Some t) h k in absurd (cc e))
    received (Some t) h = elim (dec_receives t ts) [
      | yes r ↦ (Some t, (h, r))
      | no n ↦ (None, λ u k r. let e : Some u ≡ Some t = left_common_once ts (Some u) (Some t) k h in let same : u ≡ t = cc e in n (subst (λ u. Receives u ts) same r))
    ]

-- Unary operators

pub a_unary : (o : UnaryOperator) (t : WgslType) → (r : Result WgslType Refusal) × IsUnaryAnswer o t r
a_unary LogicalNegation (scalar Bool) = (Ok (scalar Bool), not_row)
a_unary LogicalNegation (within (vec_of n) t) = (Ok (vec n t), not_vector_row n t)
a_unary LogicalNegation t = (Err (unary LogicalNegation t), not_negated t (λ h. elim h [ inl e ↦ absurd (cc e) | inr v ↦ absurd v ]))
a_unary Negation (scalar s) = (Ok (scalar s), negation_row s)
a_unary Negation t = (Err (unary Negation t), not_opposed t (λ h. h))
a_unary BitwiseComplement t = elim (dec_integer_or_vector t) [
  | yes h ↦ (Ok t, complement_row t h)
  | no n ↦ (Err (unary BitwiseComplement t), not_complemented t n)
]
a_unary AddressOf (reference Handle t m) = (Err ptr_handle, (refl, no_handle t m))
a_unary AddressOf (reference s t m) = (Ok (pointer s t m), address_row s t m (λ e. absurd (cc e)))
a_unary AddressOf t = (Err (unary AddressOf t), not_addressed t (λ h. h))
a_unary Indirection (pointer s t m) = (Ok (reference s t m), indirection_row s t m)
a_unary Indirection t = (Err (unary Indirection t), not_pointed t (λ h. h))

-- Binary operators

-- the candidate of the row that applies, or None
abbrev Found : BinaryOperator → WgslType → WgslType → Type 0
Found o a b = (c : Option BinaryCandidate) × HasCandidate o a b c

row : {o : BinaryOperator} {a b l r t : WgslType} → IsRow o a b l r t → Found o a b
row {l = l} {r = r} {t = t} h = (Some (record { lhs = l; rhs = r; result = t }), h)

dec_product : (o : BinaryOperator) → Dec (o ≡ Multiplication)
dec_product Multiplication = yes refl
dec_product o = no (λ e. absurd (cc e))

dec_sum : (o : BinaryOperator) → Dec (IsSum o)
dec_sum Addition = yes tt
dec_sum Subtraction = yes tt
dec_sum o = no (λ h. h)

dec_or_and : (o : BinaryOperator) → Dec (IsOrAnd o)
dec_or_and BitwiseOr = yes tt
dec_or_and BitwiseAnd = yes tt
dec_or_and o = no (λ h. h)

dec_matrices : (o : BinaryOperator) (c r d s : ℕ) → Dec ((IsSum o × (c ≡ d) × (r ≡ s)) ⊎ ((o ≡ Multiplication) × (c ≡ s)))
dec_matrices o c r d s = either (all_three (dec_sum o) (ℕ_discrete c d) (ℕ_discrete r s)) (both (dec_product o) (ℕ_discrete c s))

dec_fits : (o : BinaryOperator) (a b : WgslType) → Dec (Fits o a b)
dec_fits o (scalar s) (scalar t) = yes tt
dec_fits o (scalar s) (within (vec_of n) f) = yes tt
dec_fits o (scalar s) (within (mat_of c r) f) = dec_product o
dec_fits o (within (vec_of n) e) (scalar t) = yes tt
dec_fits o (within (vec_of n) e) (within (vec_of m) f) = yes tt
dec_fits o (within (vec_of n) e) (within (mat_of c r) f) = both (dec_product o) (ℕ_discrete n r)
dec_fits o (within (mat_of c r) e) (scalar t) = dec_product o
dec_fits o (within (mat_of c r) e) (within (vec_of n) f) = both (dec_product o) (ℕ_discrete c n)
dec_fits o (within (mat_of c r) e) (within (mat_of d s) f) = dec_matrices o c r d s
dec_fits o a b = no (λ h. h)

-- the row of operands that fit, by their common type
fitting_row : (o : BinaryOperator) → IsArithmetic o → (a b c : WgslType) → Fits o a b → IsCommon (elements a b).0 (elements a b).1 (Some c) → Found o a b
fitting_row o h (scalar s) (scalar t) d f k = row (scalar_row o h s t d k)
fitting_row o h (scalar s) (within (vec_of n) e) d f k = row (scalar_vector_row o h s n e d k)
fitting_row o h (scalar s) (within (mat_of c r) e) d f k = subst (λ o. Found o (scalar s) (mat c r e)) (sym f) (row (scalar_matrix_row s c r e d k))
fitting_row o h (within (vec_of n) e) (scalar t) d f k = row (vector_scalar_row o h n e t d k)
fitting_row o h (within (vec_of n) e) (within (vec_of m) g) d f k = row (vector_row o h n m e g d k)
fitting_row o h (within (vec_of n) e) (within (mat_of c r) g) d f k =
    subst (λ o. Found o (vec n e) (mat c r g)) (sym f.0) (subst (λ n. Found Multiplication (vec n e) (mat c r g)) (sym f.1) (row (vector_matrix_row c r e g d k)))
fitting_row o h (within (mat_of c r) e) (scalar t) d f k = subst (λ o. Found o (mat c r e) (scalar t)) (sym f) (row (matrix_scalar_row c r e t d k))
fitting_row o h (within (mat_of c r) e) (within (vec_of n) g) d f k =
    subst (λ o. Found o (mat c r e) (vec n g)) (sym f.0) (subst (λ n. Found Multiplication (mat c r e) (vec n g)) f.1 (row (matrix_vector_row c r e g d k)))
fitting_row o h (within (mat_of c r) e) (within (mat_of m s) g) d (inl f) k =
    subst (λ m. Found o (mat c r e) (mat m s g)) f.1 (subst (λ s. Found o (mat c r e) (mat c s g)) f.2 (row (matrix_row o f.0 c r e g d k)))
fitting_row o h (within (mat_of c r) e) (within (mat_of m s) g) d (inr f) k =
    subst (λ o. Found o (mat c r e) (mat m s g)) (sym f.0) (subst (λ s. Found Multiplication (mat c r e) (mat m s g)) f.1 (row (matrix_matrix_row c m r e g d k)))
fitting_row o h a b d f k = absurd f

by_arithmetic : (o : BinaryOperator) → IsArithmetic o → (a b : WgslType) → Found o a b
by_arithmetic o h a b = elim (dec_fits o a b) [
  | no n ↦ (None, unfit n h)
  | yes f ↦ let k = some_common (elements a b).0 (elements a b).1 in common f k.0 k.1
]
  where
    common : Fits o a b → (c : Option WgslType) → IsCommon (elements a b).0 (elements a b).1 c → Found o a b
    common f (Some c) k = fitting_row o h a b c f k
    common f None k = (None, elements_apart k h)

by_comparison : (o : BinaryOperator) → IsComparison o → (a b : WgslType) → Found o a b
by_comparison o h a b = let f = some_common a b in common f.0 f.1
  where
    common : (c : Option WgslType) → IsCommon a b c → Found o a b
    common None k = (None, compared_apart k h)
    common (Some (scalar s)) k = row (comparison_row o h a b s k)
    common (Some (within (vec_of n) e)) k = row (comparison_vector_row o h a b n e k)
    common (Some c) k = (None, not_compared k (λ x. elim x [ inl y ↦ y | inr y ↦ y ]) h)

by_logic : (o : BinaryOperator) → IsLogical o → (a b : WgslType) → Found o a b
by_logic o h a b = elim (both (same_type a (scalar Bool)) (same_type b (scalar Bool))) [
  | yes e ↦ subst (λ a. Found o a b) (sym e.0) (subst (λ b. Found o (scalar Bool) b) (sym e.1) (row (logical_row o h)))
  | no n ↦ (None, not_logical n h)
]

dec_bools : (t : WgslType) → Dec ((n : ℕ) × (t ≡ vec n (scalar Bool)))
dec_bools (within (vec_of n) t) = elim (same_type t (scalar Bool)) [
  | yes e ↦ yes (n, cc e)
  | no other ↦ no (λ h. other (cc (h.1)))
]
dec_bools t = no (λ h. absurd (cc (h.1)))

by_bits : (o : BinaryOperator) → IsBitwise o → (a b : WgslType) → Found o a b
by_bits o h a b = let f = some_common a b in common f.0 f.1
  where
    common : (c : Option WgslType) → IsCommon a b c → Found o a b
    common None k = (None, bits_apart k h)
    common (Some c) k = elim (dec_integer_or_vector c) [
      | yes i ↦ row (bit_row o h a b c k i)
      | no i ↦ elim (both (dec_or_and o) (dec_bools c)) [
        | yes v ↦ row (bools_row o v.0 v.1.0 a b (subst (λ c. IsCommon a b (Some c)) v.1.1 k))
        | no v ↦ (None, no_bits k i (λ x. v (x.0, (x.1, x.2))) h)
      ]
    ]

dec_shifted : (a b : WgslType) → Dec (IsShifted a b)
dec_shifted (scalar i) t = both (dec_integer i) (dec_converts t (scalar U32))
dec_shifted (within (vec_of n) (scalar i)) (within (vec_of m) t) = all_three (ℕ_discrete n m) (dec_integer i) (dec_converts t (scalar U32))
dec_shifted a b = no (λ h. h)

shifted_row : (o : BinaryOperator) → IsShift o → (a b : WgslType) → IsShifted a b → Found o a b
shifted_row o h (scalar i) t x = row (shift_row o h i x.0 t x.1)
shifted_row o h (within (vec_of n) (scalar i)) (within (vec_of m) t) x =
    subst (λ m. Found o (vec n (scalar i)) (vec m t)) x.0 (row (shift_vector_row o h n i x.1 t x.2))
shifted_row o h a b x = absurd x

by_shift : (o : BinaryOperator) → IsShift o → (a b : WgslType) → Found o a b
by_shift o h a b = elim (dec_shifted a b) [ yes x ↦ shifted_row o h a b x | no n ↦ (None, not_shifted n h) ]

a_row : (o : BinaryOperator) (a b : WgslType) → Found o a b
a_row ShortCircuitOr = by_logic ShortCircuitOr tt
a_row ShortCircuitAnd = by_logic ShortCircuitAnd tt
a_row Addition = by_arithmetic Addition tt
a_row Subtraction = by_arithmetic Subtraction tt
a_row Multiplication = by_arithmetic Multiplication tt
a_row Division = by_arithmetic Division tt
a_row Remainder = by_arithmetic Remainder tt
a_row BitwiseOr = by_bits BitwiseOr tt
a_row BitwiseAnd = by_bits BitwiseAnd tt
a_row BitwiseXor = by_bits BitwiseXor tt
a_row ShiftLeft = by_shift ShiftLeft tt
a_row ShiftRight = by_shift ShiftRight tt
a_row o = by_comparison o tt

-- The answers

pub a_binary : (o : BinaryOperator) (a b : WgslType) → (r : Result WgslType Refusal) × IsOperatorAnswer o a b r
a_binary o a b = let f = a_row o a b in answer f.0 f.1
  where
    answer : (c : Option BinaryCandidate) → HasCandidate o a b c → (r : Result WgslType Refusal) × IsOperatorAnswer o a b r
    answer (Some c) h = (Ok c.result, (c.lhs, c.rhs, h))
    answer None h = (Err (binary o a b), (refl, h))
