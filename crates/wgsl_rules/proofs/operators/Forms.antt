-- The candidates of a name are families; the outer layers of the operands determine the family that can take them.
use Rattle.std.proofs.Common.{ℕ, List, [], ◌∷◌, Option, Some, None, inl, inr}
use Rattle.wgsl_rules.proofs.Common.{Scalar, Bool, U32, vec_of, mat_of, WgslType, scalar, within, vec, mat, BinaryOperator, IsInteger, IsNumericOrVector, IsFloatOrVector, IsFloatVector, inner_of, concretized}
use Rattle.wgsl_syntax.specs.declared.operator.BinaryOperator.TheVariants.{ShortCircuitOr, ShortCircuitAnd, Addition, Subtraction, Multiplication, Division, Remainder, Equality, Inequality, LessThan, LessThanEqual, GreaterThan, GreaterThanEqual, BitwiseOr, BitwiseAnd, BitwiseXor, ShiftLeft, ShiftRight}
use Rattle.wgsl_rules.specs.operators.Candidates.{Name, operator, min, max, atan2, step, pow, cross, reflect, distance, dot, clamp, fma, smoothstep, face_forward, mix, refract, select, insert_bits, IsArithmetic, IsSum, IsComparison, IsLogical, IsBitwise, IsOrAnd, IsShift, IsOfTwo, IsOfThree, IsFor, IsMixed, IsCandidate, scalars, vectors, scalar_vector, vector_scalar, matrices, scalar_matrix, matrix_scalar, vector_matrix, matrix_vector, matrix_matrix, compared, compared_vectors, logical, bits, bits_vectors, bools_vectors, shifted, shifted_vectors, of_two, of_three, distances, products, either, each_either, mixed, inserted}
use Rattle.wgsl_rules.proofs.operators.Families.{Slot, whole, inner, fixed, fill_all, HasOpen}
use Rattle.wgsl_rules.proofs.operators.FamilyKinds.{Admits, IsBool, Kind, Outer, a_bool, a_float, a_number, an_integer, an_integer_or_bool, any_scalar, any_type, layer, no_type, or_vector, plain, scalar_or_vector, vector_of}

-- The families of a name

pub record Form (n : Name) : Type 0 where
  pub slots : List Slot
  pub gives : WgslType → WgslType
  pub kind : Kind
  pub opens : HasOpen slots
  pub sound : (c : WgslType) → Admits kind c → IsCandidate n (fill_all slots c) (gives c)

abbrev family : {n : Name} (slots : List Slot) (gives : WgslType → WgslType) (kind : Kind) → HasOpen slots
    → ((c : WgslType) → Admits kind c → IsCandidate n (fill_all slots c) (gives c)) → Option (Form n)
family slots gives kind opens sound = Some (record { slots = slots; gives = gives; kind = kind; opens = opens; sound = sound })

pub for_scalar : (P : WgslType → Type 0) → ((s : Scalar) → P (scalar s)) → (c : WgslType) → Admits any_scalar c → P c
for_scalar P f (scalar s) h = f s
for_scalar P f c h = absurd h

pub for_integer : (P : WgslType → Type 0) → ((s : Scalar) → IsInteger s → P (scalar s)) → (c : WgslType) → Admits an_integer c → P c
for_integer P f (scalar s) h = f s h
for_integer P f c h = absurd h

pub from_bool : (P : WgslType → Type 0) → P (scalar Bool) → (s : Scalar) → IsBool s → P (scalar s)
from_bool P p Bool h = p
from_bool P p s h = absurd h

pub for_bool : (P : WgslType → Type 0) → P (scalar Bool) → (c : WgslType) → Admits a_bool c → P c
for_bool P p (scalar s) h = from_bool P p s h
for_bool P p c h = absurd h

pub for_integer_or_bool : (P : WgslType → Type 0) → ((s : Scalar) → IsInteger s → P (scalar s)) → P (scalar Bool) → (c : WgslType) → Admits an_integer_or_bool c → P c
for_integer_or_bool P f p (scalar s) h = elim h [ inl k ↦ f s k | inr k ↦ from_bool P p s k ]
for_integer_or_bool P f p c h = absurd h

abbrev pub arithmetic : (o : BinaryOperator) → IsArithmetic o → List Outer → Option (Form (operator o))
arithmetic o h (plain ∷ plain ∷ []) =
    family (whole ∷ whole ∷ []) (λ c. c) any_scalar tt (for_scalar (λ c. IsCandidate (operator o) (c ∷ c ∷ []) c) (scalars o h))
arithmetic o h (layer (vec_of n) ∷ layer (vec_of m) ∷ []) =
    family (inner (vec_of n) ∷ inner (vec_of n) ∷ []) (λ t. within (vec_of n) t) any_type tt (λ c a. vectors o h n c)
arithmetic o h (plain ∷ layer (vec_of n) ∷ []) =
    family (whole ∷ inner (vec_of n) ∷ []) (λ t. within (vec_of n) t) any_scalar tt (for_scalar (λ c. IsCandidate (operator o) (c ∷ vec n c ∷ []) (vec n c)) (λ s. scalar_vector o h s n))
arithmetic o h (layer (vec_of n) ∷ plain ∷ []) =
    family (inner (vec_of n) ∷ whole ∷ []) (λ t. within (vec_of n) t) any_scalar tt (for_scalar (λ c. IsCandidate (operator o) (vec n c ∷ c ∷ []) (vec n c)) (λ s. vector_scalar o h s n))
arithmetic o h os = None

abbrev pub sums : (o : BinaryOperator) → IsSum o → List Outer → Option (Form (operator o))
sums o h (layer (mat_of c r) ∷ layer (mat_of d s) ∷ []) =
    family (inner (mat_of c r) ∷ inner (mat_of c r) ∷ []) (λ t. within (mat_of c r) t) any_type tt (λ e a. matrices o h c r e)
sums o h os = None

abbrev pub matrix_products : List Outer → Option (Form (operator Multiplication))
matrix_products (plain ∷ layer (mat_of c r) ∷ []) =
    family (whole ∷ inner (mat_of c r) ∷ []) (λ t. within (mat_of c r) t) any_scalar tt (for_scalar (λ e. IsCandidate (operator Multiplication) (e ∷ mat c r e ∷ []) (mat c r e)) (λ s. scalar_matrix s c r))
matrix_products (layer (mat_of c r) ∷ plain ∷ []) =
    family (inner (mat_of c r) ∷ whole ∷ []) (λ t. within (mat_of c r) t) any_scalar tt (for_scalar (λ e. IsCandidate (operator Multiplication) (mat c r e ∷ e ∷ []) (mat c r e)) (λ s. matrix_scalar s c r))
matrix_products (layer (vec_of n) ∷ layer (mat_of c r) ∷ []) =
    family (inner (vec_of r) ∷ inner (mat_of c r) ∷ []) (λ t. within (vec_of c) t) any_type tt (λ e a. vector_matrix c r e)
matrix_products (layer (mat_of c r) ∷ layer (vec_of n) ∷ []) =
    family (inner (mat_of c r) ∷ inner (vec_of c) ∷ []) (λ t. within (vec_of r) t) any_type tt (λ e a. matrix_vector c r e)
matrix_products (layer (mat_of k r) ∷ layer (mat_of c n) ∷ []) =
    family (inner (mat_of k r) ∷ inner (mat_of c k) ∷ []) (λ t. within (mat_of c r) t) any_type tt (λ e a. matrix_matrix k c r e)
matrix_products os = None

abbrev pub comparisons : (o : BinaryOperator) → IsComparison o → List Outer → Option (Form (operator o))
comparisons o h (plain ∷ plain ∷ []) =
    family (whole ∷ whole ∷ []) (λ c. scalar Bool) any_scalar tt (for_scalar (λ c. IsCandidate (operator o) (c ∷ c ∷ []) (scalar Bool)) (compared o h))
comparisons o h (layer (vec_of n) ∷ layer (vec_of m) ∷ []) =
    family (inner (vec_of n) ∷ inner (vec_of n) ∷ []) (λ c. vec n (scalar Bool)) any_type tt (λ c a. compared_vectors o h n c)
comparisons o h os = None

abbrev pub logicals : (o : BinaryOperator) → IsLogical o → List Outer → Option (Form (operator o))
logicals o h (plain ∷ plain ∷ []) =
    family (whole ∷ whole ∷ []) (λ c. c) a_bool tt (for_bool (λ c. IsCandidate (operator o) (c ∷ c ∷ []) c) (logical o h))
logicals o h os = None

abbrev pub or_ands : (o : BinaryOperator) → IsBitwise o → IsOrAnd o → List Outer → Option (Form (operator o))
or_ands o h k (plain ∷ plain ∷ []) =
    family (whole ∷ whole ∷ []) (λ c. c) an_integer tt (for_integer (λ c. IsCandidate (operator o) (c ∷ c ∷ []) c) (bits o h))
or_ands o h k (layer (vec_of n) ∷ layer (vec_of m) ∷ []) =
    family (inner (vec_of n) ∷ inner (vec_of n) ∷ []) (λ t. within (vec_of n) t) an_integer_or_bool tt (for_integer_or_bool (λ c. IsCandidate (operator o) (vec n c ∷ vec n c ∷ []) (vec n c)) (bits_vectors o h n) (bools_vectors o k n))
or_ands o h k os = None

abbrev pub exclusive_or : List Outer → Option (Form (operator BitwiseXor))
exclusive_or (plain ∷ plain ∷ []) =
    family (whole ∷ whole ∷ []) (λ c. c) an_integer tt (for_integer (λ c. IsCandidate (operator BitwiseXor) (c ∷ c ∷ []) c) (bits BitwiseXor tt))
exclusive_or (layer (vec_of n) ∷ layer (vec_of m) ∷ []) =
    family (inner (vec_of n) ∷ inner (vec_of n) ∷ []) (λ t. within (vec_of n) t) an_integer tt (for_integer (λ c. IsCandidate (operator BitwiseXor) (vec n c ∷ vec n c ∷ []) (vec n c)) (bits_vectors BitwiseXor tt n))
exclusive_or os = None

abbrev pub shifts : (o : BinaryOperator) → IsShift o → List Outer → Option (Form (operator o))
shifts o h (plain ∷ plain ∷ []) =
    family (whole ∷ fixed (scalar U32) ∷ []) (λ c. c) an_integer tt (for_integer (λ c. IsCandidate (operator o) (c ∷ scalar U32 ∷ []) c) (shifted o h))
shifts o h (layer (vec_of n) ∷ layer (vec_of m) ∷ []) =
    family (inner (vec_of n) ∷ fixed (vec n (scalar U32)) ∷ []) (λ t. within (vec_of n) t) an_integer tt (for_integer (λ c. IsCandidate (operator o) (vec n c ∷ vec n (scalar U32) ∷ []) (vec n c)) (shifted_vectors o h n))
shifts o h os = None

-- The types of a function's candidates (t, t) and (t, t, t)

abbrev pub kind_of : Name → Kind
kind_of min = or_vector a_number
kind_of max = or_vector a_number
kind_of clamp = or_vector a_number
kind_of atan2 = or_vector a_float
kind_of step = or_vector a_float
kind_of fma = or_vector a_float
kind_of smoothstep = or_vector a_float
kind_of mix = or_vector a_float
kind_of cross = vector_of a_float
kind_of reflect = vector_of a_float
kind_of face_forward = vector_of a_float
kind_of pow = any_type
kind_of n = no_type

pub admits_number : (t : WgslType) → IsNumericOrVector t → Admits (or_vector a_number) t
admits_number (scalar s) h = h
admits_number (within (vec_of n) (scalar s)) h = h
admits_number t h = absurd h

pub is_number : (t : WgslType) → Admits (or_vector a_number) t → IsNumericOrVector t
is_number (scalar s) h = h
is_number (within (vec_of n) (scalar s)) h = h
is_number _ h = absurd h

pub admits_float_or_vector : (t : WgslType) → IsFloatOrVector t → Admits (or_vector a_float) t
admits_float_or_vector (scalar s) h = h
admits_float_or_vector (within (vec_of n) (scalar s)) h = h
admits_float_or_vector t h = absurd h

pub is_float_or_vector : (t : WgslType) → Admits (or_vector a_float) t → IsFloatOrVector t
is_float_or_vector (scalar s) h = h
is_float_or_vector (within (vec_of n) (scalar s)) h = h
is_float_or_vector _ h = absurd h

admits_float_vector : (t : WgslType) → IsFloatVector t → Admits (vector_of a_float) t
admits_float_vector (within (vec_of n) (scalar s)) h = h
admits_float_vector t h = absurd h

is_float_vector : (t : WgslType) → Admits (vector_of a_float) t → IsFloatVector t
is_float_vector (within (vec_of n) (scalar s)) h = h
is_float_vector _ h = absurd h

pub admitted_for : (n : Name) (t : WgslType) → IsFor n t → Admits (kind_of n) t
admitted_for min t h = admits_number t h
admitted_for max t h = admits_number t h
admitted_for clamp t h = admits_number t h
admitted_for atan2 t h = admits_float_or_vector t h
admitted_for step t h = admits_float_or_vector t h
admitted_for fma t h = admits_float_or_vector t h
admitted_for smoothstep t h = admits_float_or_vector t h
admitted_for mix t h = admits_float_or_vector t h
admitted_for cross t h = admits_float_vector t h
admitted_for reflect t h = admits_float_vector t h
admitted_for face_forward t h = admits_float_vector t h
admitted_for pow t h = tt
admitted_for n t h = absurd h

pub is_for : (n : Name) (t : WgslType) → Admits (kind_of n) t → IsFor n t
is_for min t h = is_number t h
is_for max t h = is_number t h
is_for clamp t h = is_number t h
is_for atan2 t h = is_float_or_vector t h
is_for step t h = is_float_or_vector t h
is_for fma t h = is_float_or_vector t h
is_for smoothstep t h = is_float_or_vector t h
is_for mix t h = is_float_or_vector t h
is_for cross t h = is_float_vector t h
is_for reflect t h = is_float_vector t h
is_for face_forward t h = is_float_vector t h
is_for pow t h = tt
is_for n t h = absurd h

-- a family of two arguments
abbrev pub pair_form : (n : Name) (k : Kind) (g : WgslType → WgslType) → ((c : WgslType) → Admits k c → IsCandidate n (c ∷ c ∷ []) (g c)) → Form n
pair_form n k g sound = record { slots = whole ∷ whole ∷ []; gives = g; kind = k; opens = tt; sound = sound }

abbrev pub two : (n : Name) → IsOfTwo n → Form n
two n h = pair_form n (kind_of n) (λ t. t) (λ c a. of_two n h c (is_for n c a))

abbrev pub three : (n : Name) → IsOfThree n → Form n
three n h =
    record { slots = whole ∷ whole ∷ whole ∷ []; gives = λ t. t; kind = kind_of n; opens = tt; sound = λ c a. of_three n h c (is_for n c a) }

abbrev pub distance_form : Form distance
distance_form = pair_form distance (or_vector a_float) inner_of (λ c a. distances c (is_float_or_vector c a))

pub dot_sound : (c : WgslType) → Admits (vector_of a_number) c → IsCandidate dot (c ∷ c ∷ []) (inner_of c)
dot_sound (within (vec_of n) (scalar s)) h = products n s h
dot_sound _ h = absurd h

abbrev pub dot_form : Form dot
dot_form = pair_form dot (vector_of a_number) inner_of dot_sound

pub mixed_sound : (n : Name) → IsMixed n → (k : ℕ) (c : WgslType) → Admits a_float c → IsCandidate n (vec k c ∷ vec k c ∷ c ∷ []) (vec k c)
mixed_sound n h k (scalar s) a = mixed n h k s a
mixed_sound n h k c a = absurd a

abbrev pub mixed_form : (n : Name) → IsMixed n → ℕ → Form n
mixed_form n h k =
    record { slots = inner (vec_of k) ∷ inner (vec_of k) ∷ whole ∷ []; gives = λ t. vec k t; kind = a_float; opens = tt; sound = mixed_sound n h k }

abbrev pub mixes : List Outer → Option (Form mix)
mixes (layer (vec_of n) ∷ layer (vec_of m) ∷ plain ∷ []) = Some (mixed_form mix tt n)
mixes os = Some (three mix tt)

abbrev pub refracts : List Outer → Option (Form refract)
refracts (layer (vec_of n) ∷ layer (vec_of m) ∷ plain ∷ []) = Some (mixed_form refract tt n)
refracts os = None

abbrev pub insert_form : Form insert_bits
insert_form =
    record { slots = whole ∷ whole ∷ fixed (scalar U32) ∷ fixed (scalar U32) ∷ []; gives = concretized; kind = or_vector a_number; opens = tt; sound = λ c a. inserted c (is_number c a) }

abbrev pub either_form : Form select
either_form =
    record { slots = whole ∷ whole ∷ fixed (scalar Bool) ∷ []; gives = λ t. t; kind = scalar_or_vector; opens = tt; sound = either }

pub each_sound : (k : ℕ) (c : WgslType) → Admits (vector_of any_type) c → IsCandidate select (c ∷ c ∷ vec k (scalar Bool) ∷ []) c
each_sound k (within (vec_of n) t) h = each_either n k t
each_sound k t h = absurd h

abbrev pub each_form : ℕ → Form select
each_form k =
    record { slots = whole ∷ whole ∷ fixed (vec k (scalar Bool)) ∷ []; gives = λ t. t; kind = vector_of any_type; opens = tt; sound = each_sound k }

abbrev pub selects : List Outer → Option (Form select)
selects (o ∷ p ∷ layer (vec_of k) ∷ []) = Some (each_form k)
selects os = Some either_form

abbrev pub or_else : {A : Type 0} → Option A → Option A → Option A
or_else (Some a) b = Some a
or_else None b = b

abbrev pub form_of : (n : Name) → List Outer → Option (Form n)
form_of (operator ShortCircuitOr) os = logicals ShortCircuitOr tt os
form_of (operator ShortCircuitAnd) os = logicals ShortCircuitAnd tt os
form_of (operator Addition) os = or_else (arithmetic Addition tt os) (sums Addition tt os)
form_of (operator Subtraction) os = or_else (arithmetic Subtraction tt os) (sums Subtraction tt os)
form_of (operator Multiplication) os = or_else (arithmetic Multiplication tt os) (matrix_products os)
form_of (operator Division) os = arithmetic Division tt os
form_of (operator Remainder) os = arithmetic Remainder tt os
form_of (operator Equality) os = comparisons Equality tt os
form_of (operator Inequality) os = comparisons Inequality tt os
form_of (operator LessThan) os = comparisons LessThan tt os
form_of (operator LessThanEqual) os = comparisons LessThanEqual tt os
form_of (operator GreaterThan) os = comparisons GreaterThan tt os
form_of (operator GreaterThanEqual) os = comparisons GreaterThanEqual tt os
form_of (operator BitwiseOr) os = or_ands BitwiseOr tt tt os
form_of (operator BitwiseAnd) os = or_ands BitwiseAnd tt tt os
form_of (operator BitwiseXor) os = exclusive_or os
form_of (operator ShiftLeft) os = shifts ShiftLeft tt os
form_of (operator ShiftRight) os = shifts ShiftRight tt os
form_of min os = Some (two min tt)
form_of max os = Some (two max tt)
form_of atan2 os = Some (two atan2 tt)
form_of step os = Some (two step tt)
form_of pow os = Some (two pow tt)
form_of cross os = Some (two cross tt)
form_of reflect os = Some (two reflect tt)
form_of distance os = Some distance_form
form_of dot os = Some dot_form
form_of clamp os = Some (three clamp tt)
form_of fma os = Some (three fma tt)
form_of smoothstep os = Some (three smoothstep tt)
form_of face_forward os = Some (three face_forward tt)
form_of mix os = mixes os
form_of refract os = refracts os
form_of select os = selects os
form_of insert_bits os = Some insert_form
