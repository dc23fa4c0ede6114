-- The groups of binary operators, and what the rows of each group take.
use Rattle.std.proofs.Common.{◌≡◌, ℕ, ◌⊎◌, Some, refl, sym, ◌∙◌, subst, inl, inr}
use Rattle.wgsl_rules.proofs.Common.{Bool, U32, BinaryOperator, vec_of, mat_of, WgslType, scalar, within, vec, IsInteger, IsIntegerOrVector, IsScalar, IsVector, ConvertsTo, IsCommon, IsArithmetic, IsSum, IsComparison, IsLogical, IsBitwise, IsOrAnd, IsShift}
use Rattle.wgsl_syntax.specs.declared.operator.BinaryOperator.TheVariants.{ShortCircuitOr, ShortCircuitAnd, Addition, Subtraction, Multiplication, Division, Remainder, Equality, Inequality, LessThan, LessThanEqual, GreaterThan, GreaterThanEqual, BitwiseOr, BitwiseAnd, BitwiseXor, ShiftLeft, ShiftRight}
use Rattle.wgsl_rules.specs.operators.Rows.{IsRow, scalar_row, vector_row, scalar_vector_row, vector_scalar_row, matrix_row, scalar_matrix_row, matrix_scalar_row, vector_matrix_row, matrix_vector_row, matrix_matrix_row, comparison_row, comparison_vector_row, logical_row, bools_row, bit_row, shift_row, shift_vector_row}

pub data Group : Type 0 where
  logicals arithmetics comparisons bits shifts : Group

abbrev pub group : BinaryOperator → Group
group ShortCircuitOr = logicals
group ShortCircuitAnd = logicals
group Addition = arithmetics
group Subtraction = arithmetics
group Multiplication = arithmetics
group Division = arithmetics
group Remainder = arithmetics
group Equality = comparisons
group Inequality = comparisons
group LessThan = comparisons
group LessThanEqual = comparisons
group GreaterThan = comparisons
group GreaterThanEqual = comparisons
group BitwiseOr = bits
group BitwiseAnd = bits
group BitwiseXor = bits
group ShiftLeft = shifts
group ShiftRight = shifts

pub logicals_group : (o : BinaryOperator) → IsLogical o → group o ≡ logicals
logicals_group ShortCircuitOr h = refl
logicals_group ShortCircuitAnd h = refl
logicals_group o h = absurd h

pub arithmetics_group : (o : BinaryOperator) → IsArithmetic o → group o ≡ arithmetics
arithmetics_group Addition h = refl
arithmetics_group Subtraction h = refl
arithmetics_group Multiplication h = refl
arithmetics_group Division h = refl
arithmetics_group Remainder h = refl
arithmetics_group o h = absurd h

pub comparisons_group : (o : BinaryOperator) → IsComparison o → group o ≡ comparisons
comparisons_group Equality h = refl
comparisons_group Inequality h = refl
comparisons_group LessThan h = refl
comparisons_group LessThanEqual h = refl
comparisons_group GreaterThan h = refl
comparisons_group GreaterThanEqual h = refl
comparisons_group o h = absurd h

pub bits_group : (o : BinaryOperator) → IsBitwise o → group o ≡ bits
bits_group BitwiseOr h = refl
bits_group BitwiseAnd h = refl
bits_group BitwiseXor h = refl
bits_group o h = absurd h

pub or_and_group : (o : BinaryOperator) → IsOrAnd o → group o ≡ bits
or_and_group BitwiseOr h = refl
or_and_group BitwiseAnd h = refl
or_and_group o h = absurd h

pub shifts_group : (o : BinaryOperator) → IsShift o → group o ≡ shifts
shifts_group ShiftLeft h = refl
shifts_group ShiftRight h = refl
shifts_group o h = absurd h

pub sums_group : (o : BinaryOperator) → IsSum o → group o ≡ arithmetics
sums_group Addition h = refl
sums_group Subtraction h = refl
sums_group o h = absurd h

-- what a row of each group needs

-- the two types whose common type an arithmetic row takes
abbrev pub elements : WgslType → WgslType → WgslType × WgslType
elements (scalar s) (within (vec_of n) e) = (scalar s, e)
elements (scalar s) (within (mat_of c r) e) = (scalar s, e)
elements (within (vec_of n) e) (scalar s) = (e, scalar s)
elements (within (vec_of n) e) (within (mat_of c r) f) = (e, f)
elements (within (mat_of c r) e) (scalar s) = (e, scalar s)
elements (within (mat_of c r) e) (within (vec_of n) f) = (e, f)
elements (within (mat_of c r) e) (within (mat_of d s) f) = (e, f)
elements a b = (a, b)

-- the operands that an arithmetic row takes
abbrev pub Fits : BinaryOperator → WgslType → WgslType → Type 0
Fits o (scalar s) (scalar t) = Unit {0}
Fits o (scalar s) (within (vec_of n) f) = Unit {0}
Fits o (scalar s) (within (mat_of c r) f) = o ≡ Multiplication
Fits o (within (vec_of n) e) (scalar t) = Unit {0}
Fits o (within (vec_of n) e) (within (vec_of m) f) = Unit {0}
Fits o (within (vec_of n) e) (within (mat_of c r) f) = (o ≡ Multiplication) × (n ≡ r)
Fits o (within (mat_of c r) e) (scalar t) = o ≡ Multiplication
Fits o (within (mat_of c r) e) (within (vec_of n) f) = (o ≡ Multiplication) × (c ≡ n)
Fits o (within (mat_of c r) e) (within (mat_of d s) f) = (IsSum o × (c ≡ d) × (r ≡ s)) ⊎ ((o ≡ Multiplication) × (c ≡ s))
Fits o a b = ⊥

-- the operands that a shift takes
abbrev pub IsShifted : WgslType → WgslType → Type 0
IsShifted (scalar i) t = IsInteger i × ConvertsTo t (scalar U32)
IsShifted (within (vec_of n) (scalar i)) (within (vec_of m) t) = (n ≡ m) × IsInteger i × ConvertsTo t (scalar U32)
IsShifted a b = ⊥

abbrev pub NeedsArithmetic : BinaryOperator → WgslType → WgslType → Type 0
NeedsArithmetic o a b = Fits o a b × (c : WgslType) × IsCommon (elements a b).0 (elements a b).1 (Some c)

abbrev pub NeedsComparison : WgslType → WgslType → Type 0
NeedsComparison a b = (c : WgslType) × IsCommon a b (Some c) × (IsScalar c ⊎ IsVector c)

abbrev pub NeedsLogical : WgslType → WgslType → Type 0
NeedsLogical a b = (a ≡ scalar Bool) × (b ≡ scalar Bool)

abbrev pub NeedsBits : BinaryOperator → WgslType → WgslType → Type 0
NeedsBits o a b = (c : WgslType) × IsCommon a b (Some c) × (IsIntegerOrVector c ⊎ (IsOrAnd o × (n : ℕ) × (c ≡ vec n (scalar Bool))))

abbrev Needs : Group → BinaryOperator → WgslType → WgslType → Type 0
Needs logicals o a b = NeedsLogical a b
Needs arithmetics o a b = NeedsArithmetic o a b
Needs comparisons o a b = NeedsComparison a b
Needs bits o a b = NeedsBits o a b
Needs shifts o a b = IsShifted a b

-- a row belongs to one group, and meets its needs
row_needs : {o : BinaryOperator} {a b l r t : WgslType} → IsRow o a b l r t → (g : Group) × (group o ≡ g) × Needs g o a b
row_needs (scalar_row o h s t c k) = (arithmetics, arithmetics_group o h, (tt, c, k))
row_needs (vector_row o h n m e f c k) = (arithmetics, arithmetics_group o h, (tt, c, k))
row_needs (scalar_vector_row o h s n e c k) = (arithmetics, arithmetics_group o h, (tt, c, k))
row_needs (vector_scalar_row o h n e s c k) = (arithmetics, arithmetics_group o h, (tt, c, k))
row_needs (matrix_row o h c r e f d k) = (arithmetics, sums_group o h, (inl (h, refl, refl), d, k))
row_needs (scalar_matrix_row s c r e d k) = (arithmetics, refl, (refl, d, k))
row_needs (matrix_scalar_row c r e s d k) = (arithmetics, refl, (refl, d, k))
row_needs (vector_matrix_row c r e f d k) = (arithmetics, refl, ((refl, refl), d, k))
row_needs (matrix_vector_row c r e f d k) = (arithmetics, refl, ((refl, refl), d, k))
row_needs (matrix_matrix_row k c r e f d m) = (arithmetics, refl, (inr (refl, refl), d, m))
row_needs (comparison_row o h a b s k) = (comparisons, comparisons_group o h, (scalar s, k, inl tt))
row_needs (comparison_vector_row o h a b n e k) = (comparisons, comparisons_group o h, (vec n e, k, inr tt))
row_needs (logical_row o h) = (logicals, logicals_group o h, (refl, refl))
row_needs (bools_row o h n a b k) = (bits, or_and_group o h, (vec n (scalar Bool), k, inr (h, n, refl)))
row_needs (bit_row o h a b c k i) = (bits, bits_group o h, (c, k, inl i))
row_needs (shift_row o h i k t m) = (shifts, shifts_group o h, (k, m))
row_needs (shift_vector_row o h n i k t m) = (shifts, shifts_group o h, (refl, k, m))

needs_of : {o : BinaryOperator} {a b l r t : WgslType} → (g : Group) → group o ≡ g → IsRow o a b l r t → Needs g o a b
needs_of {o} {a} {b} g e h = let k = row_needs h in subst (λ g. Needs g o a b) (sym k.1 ∙ e) k.2

pub arithmetic_needs : {o : BinaryOperator} {a b l r t : WgslType} → IsArithmetic o → IsRow o a b l r t → NeedsArithmetic o a b
arithmetic_needs {o} h k = needs_of arithmetics (arithmetics_group o h) k

pub comparison_needs : {o : BinaryOperator} {a b l r t : WgslType} → IsComparison o → IsRow o a b l r t → NeedsComparison a b
comparison_needs {o} h k = needs_of comparisons (comparisons_group o h) k

pub logical_needs : {o : BinaryOperator} {a b l r t : WgslType} → IsLogical o → IsRow o a b l r t → NeedsLogical a b
logical_needs {o} h k = needs_of logicals (logicals_group o h) k

pub bits_needs : {o : BinaryOperator} {a b l r t : WgslType} → IsBitwise o → IsRow o a b l r t → NeedsBits o a b
bits_needs {o} h k = needs_of bits (bits_group o h) k

pub shift_needs : {o : BinaryOperator} {a b l r t : WgslType} → IsShift o → IsRow o a b l r t → IsShifted a b
shift_needs {o} h k = needs_of shifts (shifts_group o h) k
