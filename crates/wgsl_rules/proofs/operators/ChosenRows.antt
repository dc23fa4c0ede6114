-- For value types, the row of a binary operator is the least candidate, and a row applies if any candidate takes the
-- operands.
use Rattle.std.proofs.Common.{◌≡◌, ℕ, ◌⊎◌, List, [], ◌∷◌, Option, Some, None, All, refl, sym, ◌∙◌, ap, subst, subst₂, inl, inr}
use Rattle.wgsl_rules.proofs.Common.{All-nil, All-cons, Scalar, Bool, U32, Layer, vec_of, mat_of, WgslType, scalar, within, vec, mat, IsValueType, ConvertsTo, IsCommon, of_one_type, BinaryOperator, IsInteger, IsIntegerOrVector, HasRanks, Takes, IsLeastCandidate}
use Rattle.wgsl_rules.proofs.conversion.Folds.{left_of_two}
use Rattle.wgsl_syntax.specs.declared.operator.BinaryOperator.TheVariants.{ShortCircuitOr, ShortCircuitAnd, Addition, Subtraction, Multiplication, BitwiseOr, BitwiseAnd, BitwiseXor}
use Rattle.wgsl_rules.specs.operators.Candidates.{Name, operator, IsArithmetic, IsSum, IsComparison, IsLogical, IsBitwise, IsOrAnd, IsShift, IsCandidate, scalars, vectors, scalar_vector, vector_scalar, matrices, scalar_matrix, matrix_scalar, vector_matrix, matrix_vector, matrix_matrix, compared, compared_vectors, logical, bits, bits_vectors, bools_vectors, shifted, shifted_vectors, of_two}
use Rattle.wgsl_rules.specs.operators.Rows.{IsRow, scalar_row, vector_row, scalar_vector_row, vector_scalar_row, matrix_row, scalar_matrix_row, matrix_scalar_row, vector_matrix_row, matrix_vector_row, matrix_matrix_row, comparison_row, comparison_vector_row, logical_row, bools_row, bit_row, shift_row, shift_vector_row}
use Rattle.wgsl_rules.proofs.conversion.Order.{Above, here, above_inside, above_to_within, above_from_within, above_converts, value_converts}
use Rattle.wgsl_rules.proofs.conversion.Commons.{value_above, common_join, no_common, some_common, common_symmetric}
use Rattle.wgsl_rules.proofs.operators.Families.{whole, inner, fill_all, IsPut}
use Rattle.wgsl_rules.proofs.operators.FamilyKinds.{any_scalar, an_integer, a_bool, Admits, plain, layer, outer, outers, above_outer, above_admits, as_scalar}
use Rattle.wgsl_rules.proofs.operators.Forms.{Form, form_of}
use Rattle.wgsl_rules.proofs.conversion.Equations.{IsPlainScalar, above_plain}
use Rattle.wgsl_rules.proofs.operators.Choices.{arithmetic_form, comparison_form, shift_form, row_choice}

pub two_values : (a b : WgslType) → IsValueType a → IsValueType b → All IsValueType (a ∷ b ∷ [])
two_values a b va vb = All-cons IsValueType a (b ∷ []) va (All-cons IsValueType b [] vb (All-nil IsValueType))

pub common_one_of : (a b c : WgslType) → IsCommon a b (Some c) → (c ≡ a) ⊎ (c ≡ b)
common_one_of a b c (inl p) = inr p.1
common_one_of a b c (inr p) = inl p.2

-- a property of both types holds for their common type
pub common_has : (P : WgslType → Type 0) (a b c : WgslType) → P a → P b → IsCommon a b (Some c) → P c
common_has P a b c p q h = elim (common_one_of a b c h) [ inl e ↦ subst P (sym e) p | inr e ↦ subst P (sym e) q ]

-- the common type of two layers is the layer of the elements' common type
pub common_within : (l k : Layer) (e f c : WgslType) → IsValueType e → IsValueType f → IsCommon (within l e) (within k f) (Some c) →
    (d : WgslType) × (k ≡ l) × (c ≡ within l d) × IsCommon e f (Some d)
common_within l k e f c ve vf (inl p) =
    let m = above_from_within (value_above {t = within l e} ve p.0) l e refl in
    let q : k ≡ l = cc (m.1) in
    let r : f ≡ m.0 = cc (m.1) in
    (f, q, p.1 ∙ ap (λ k. within k f) q, inl (subst (λ f. ConvertsTo e f) (sym r) (above_converts m.2), refl))
common_within l k e f c ve vf (inr p) =
    let m = above_from_within (value_above {t = within k f} vf p.1) k f refl in
    let q : k ≡ l = cc (m.1) in
    let r : e ≡ m.0 = cc (m.1) in (
      e,
      q,
      p.2,
      inr (
        (λ h. p.0 (subst (λ k. ConvertsTo (within l e) (within k f)) (sym q) (above_converts (above_inside l (value_above ve h))))),
        subst (λ e. ConvertsTo f e) (sym r) (above_converts m.2),
        refl,
      ),
    )

-- conversion keeps the outer layer
outer_of : (a c : WgslType) → IsValueType a → ConvertsTo a c → outer a ≡ outer c
outer_of a c v h = above_outer (value_above v h)

pub common_outers : (a b c : WgslType) → IsValueType a → IsValueType b → IsCommon a b (Some c) → (outer a ≡ outer c) × (outer b ≡ outer c)
common_outers a b c va vb h = let j = common_join a b c va vb h in (above_outer j.left, above_outer j.right)

vector_of : (n : ℕ) (a c : WgslType) → IsValueType a → Above a (vec n c) → (e : WgslType) × (a ≡ vec n e) × Above e c
vector_of n a c v h = above_to_within h (vec_of n) c refl

-- the least candidate for two operands, each in a layer or in none, at their common type

pub both_plain : (o : Name) (f : Form o) (a b c : WgslType) → IsValueType a → IsValueType b → outer c ≡ plain → f.slots ≡ whole ∷ whole ∷ [] →
    form_of o (plain ∷ plain ∷ []) ≡ Some f → IsCommon a b (Some c) → Admits f.kind c →
    IsLeastCandidate o (a ∷ b ∷ []) (c ∷ c ∷ []) (f.gives c)
both_plain o f a b c va vb p q e k h =
    let m = common_outers a b c va vb k in
    let os : outers (a ∷ b ∷ []) ≡ plain ∷ plain ∷ [] = cc (m.0, m.1, p) in
    let ts = two_values a b va vb in
    subst (λ us. IsLeastCandidate o (a ∷ b ∷ []) us (f.gives c)) (ap (λ ss. fill_all ss c) q)
    (row_choice o (a ∷ b ∷ []) (a ∷ b ∷ []) f c ts ts (ap (λ os. form_of o os) os ∙ e)
    (subst (λ ss. IsPut ss (a ∷ b ∷ []) (a ∷ b ∷ [])) (sym q) (b ∷ [], refl, ([], refl, refl))) (left_of_two a b (Some c) k) h)

pub both_layered : (o : Name) (f : Form o) (l k : Layer) (a b c : WgslType) → IsValueType a → IsValueType b → f.slots ≡ inner l ∷ inner k ∷ [] →
    form_of o (layer l ∷ layer k ∷ []) ≡ Some f → IsCommon a b (Some c) → Admits f.kind c →
    IsLeastCandidate o (within l a ∷ within k b ∷ []) (within l c ∷ within k c ∷ []) (f.gives c)
both_layered o f l k a b c va vb q e m h =
    let xs = within l a ∷ within k b ∷ [] in
    subst (λ us. IsLeastCandidate o xs us (f.gives c)) (ap (λ ss. fill_all ss c) q)
    (row_choice o xs (a ∷ b ∷ []) f c (two_values (within l a) (within k b) va vb) (two_values a b va vb) e
    (subst (λ ss. IsPut ss xs (a ∷ b ∷ [])) (sym q) (a, b ∷ [], refl, refl, (b, [], refl, refl, refl))) (left_of_two a b (Some c) m) h)

left_layered : (o : Name) (f : Form o) (l : Layer) (a : WgslType) (s : Scalar) (c : WgslType) → IsValueType a → f.slots ≡ inner l ∷ whole ∷ [] →
    form_of o (layer l ∷ plain ∷ []) ≡ Some f → IsCommon a (scalar s) (Some c) → Admits f.kind c →
    IsLeastCandidate o (within l a ∷ scalar s ∷ []) (within l c ∷ c ∷ []) (f.gives c)
left_layered o f l a s c va q e m h =
    let xs = within l a ∷ scalar s ∷ [] in
    subst (λ us. IsLeastCandidate o xs us (f.gives c)) (ap (λ ss. fill_all ss c) q)
    (row_choice o xs (a ∷ scalar s ∷ []) f c (two_values (within l a) (scalar s) va tt) (two_values a (scalar s) va tt) e
    (subst (λ ss. IsPut ss xs (a ∷ scalar s ∷ [])) (sym q) (a, scalar s ∷ [], refl, refl, ([], refl, refl))) (left_of_two a (scalar s) (Some c) m) h)

right_layered : (o : Name) (f : Form o) (s : Scalar) (k : Layer) (b c : WgslType) → IsValueType b → f.slots ≡ whole ∷ inner k ∷ [] →
    form_of o (plain ∷ layer k ∷ []) ≡ Some f → IsCommon (scalar s) b (Some c) → Admits f.kind c →
    IsLeastCandidate o (scalar s ∷ within k b ∷ []) (c ∷ within k c ∷ []) (f.gives c)
right_layered o f s k b c vb q e m h =
    let xs = scalar s ∷ within k b ∷ [] in
    subst (λ us. IsLeastCandidate o xs us (f.gives c)) (ap (λ ss. fill_all ss c) q)
    (row_choice o xs (scalar s ∷ b ∷ []) f c (two_values (scalar s) (within k b) tt vb) (two_values (scalar s) b tt vb) e
    (subst (λ ss. IsPut ss xs (scalar s ∷ b ∷ [])) (sym q) (b ∷ [], refl, (b, [], refl, refl, refl))) (left_of_two (scalar s) b (Some c) m) h)

-- the least candidate for operands whose common type is a vector
pub layered_common : (o : Name) (f : Form o) (n : ℕ) (a b c : WgslType) → IsValueType a → IsValueType b → f.slots ≡ inner (vec_of n) ∷ inner (vec_of n) ∷ [] →
    form_of o (layer (vec_of n) ∷ layer (vec_of n) ∷ []) ≡ Some f → IsCommon a b (Some (vec n c)) → Admits f.kind c →
    IsLeastCandidate o (a ∷ b ∷ []) (vec n c ∷ vec n c ∷ []) (f.gives c)
layered_common o f n a b c va vb q e m h =
    let j = common_join a b (vec n c) va vb m in
    let x = vector_of n a c va j.left in
    let y = vector_of n b c vb j.right in
    let vx : IsValueType x.0 = subst IsValueType x.1 va in
    let vy : IsValueType y.0 = subst IsValueType y.1 vb in
    let m' = subst₂ (λ a b. IsCommon a b (Some (vec n c))) x.1 y.1 m in
    let d = common_within (vec_of n) (vec_of n) x.0 y.0 (vec n c) vx vy m' in
    let ec : d.0 ≡ c = cc (d.2) in
    subst₂ (λ a b. IsLeastCandidate o (a ∷ b ∷ []) (vec n c ∷ vec n c ∷ []) (f.gives c)) (sym x.1) (sym y.1)
    (both_layered o f (vec_of n) (vec_of n) x.0 y.0 c vx vy q e (subst (λ d. IsCommon x.0 y.0 (Some d)) ec d.3) h)

vectors_chosen : (o : BinaryOperator) → IsArithmetic o → (n m : ℕ) (e f c : WgslType) → IsCommon (vec n e) (vec m f) (Some c) → IsValueType e → IsValueType f →
    IsLeastCandidate (operator o) (vec n e ∷ vec m f ∷ []) (c ∷ c ∷ []) c
vectors_chosen o h n m e f c k ve vf =
    let d = common_within (vec_of n) (vec_of m) e f c ve vf k in
    subst (λ c. IsLeastCandidate (operator o) (vec n e ∷ vec m f ∷ []) (c ∷ c ∷ []) c) (sym d.2)
    (layered_common (operator o) _ n (vec n e) (vec m f) d.0 ve vf refl (arithmetic_form o h (layer (vec_of n) ∷ layer (vec_of n) ∷ []) _ refl)
    (subst (λ c. IsCommon (vec n e) (vec m f) (Some c)) d.2 k) tt)

matrices_chosen : (o : BinaryOperator) → IsSum o → (c r : ℕ) (e f d : WgslType) → IsCommon e f (Some d) → IsValueType e → IsValueType f →
    IsLeastCandidate (operator o) (mat c r e ∷ mat c r f ∷ []) (mat c r d ∷ mat c r d ∷ []) (mat c r d)
matrices_chosen Addition h c r e f d k ve vf = both_layered (operator Addition) _ (mat_of c r) (mat_of c r) e f d ve vf refl refl k tt
matrices_chosen Subtraction h c r e f d k ve vf = both_layered (operator Subtraction) _ (mat_of c r) (mat_of c r) e f d ve vf refl refl k tt
matrices_chosen o h c r e f d k ve vf = absurd h

bits_chosen : (o : BinaryOperator) → IsBitwise o → (a b c : WgslType) → IsCommon a b (Some c) → IsIntegerOrVector c → IsValueType a → IsValueType b →
    IsLeastCandidate (operator o) (a ∷ b ∷ []) (c ∷ c ∷ []) c
bits_chosen BitwiseOr h a b (scalar s) k i va vb = both_plain (operator BitwiseOr) _ a b (scalar s) va vb refl refl refl k i
bits_chosen BitwiseOr h a b (within (vec_of n) (scalar s)) k i va vb = layered_common (operator BitwiseOr) _ n a b (scalar s) va vb refl refl k (inl i)
bits_chosen BitwiseOr h a b c k i va vb = absurd i
bits_chosen BitwiseAnd h a b (scalar s) k i va vb = both_plain (operator BitwiseAnd) _ a b (scalar s) va vb refl refl refl k i
bits_chosen BitwiseAnd h a b (within (vec_of n) (scalar s)) k i va vb = layered_common (operator BitwiseAnd) _ n a b (scalar s) va vb refl refl k (inl i)
bits_chosen BitwiseAnd h a b c k i va vb = absurd i
bits_chosen BitwiseXor h a b (scalar s) k i va vb = both_plain (operator BitwiseXor) _ a b (scalar s) va vb refl refl refl k i
bits_chosen BitwiseXor h a b (within (vec_of n) (scalar s)) k i va vb = layered_common (operator BitwiseXor) _ n a b (scalar s) va vb refl refl k i
bits_chosen BitwiseXor h a b c k i va vb = absurd i
bits_chosen o h a b c k i va vb = absurd h

self_common : (a : WgslType) → IsCommon a a (Some a)
self_common a = inl (above_converts here, refl)

logical_chosen : (o : BinaryOperator) → IsLogical o → IsLeastCandidate (operator o) (scalar Bool ∷ scalar Bool ∷ []) (scalar Bool ∷ scalar Bool ∷ []) (scalar Bool)
logical_chosen ShortCircuitOr h = both_plain (operator ShortCircuitOr) _ (scalar Bool) (scalar Bool) (scalar Bool) tt tt refl refl refl (self_common (scalar Bool)) tt
logical_chosen ShortCircuitAnd h = both_plain (operator ShortCircuitAnd) _ (scalar Bool) (scalar Bool) (scalar Bool) tt tt refl refl refl (self_common (scalar Bool)) tt
logical_chosen o h = absurd h

bools_chosen : (o : BinaryOperator) → IsOrAnd o → (n : ℕ) (a b : WgslType) → IsCommon a b (Some (vec n (scalar Bool))) → IsValueType a → IsValueType b →
    IsLeastCandidate (operator o) (a ∷ b ∷ []) (vec n (scalar Bool) ∷ vec n (scalar Bool) ∷ []) (vec n (scalar Bool))
bools_chosen BitwiseOr h n a b k va vb = layered_common (operator BitwiseOr) _ n a b (scalar Bool) va vb refl refl k (inr tt)
bools_chosen BitwiseAnd h n a b k va vb = layered_common (operator BitwiseAnd) _ n a b (scalar Bool) va vb refl refl k (inr tt)
bools_chosen o h n a b k va vb = absurd h

shift_chosen : (o : BinaryOperator) → IsShift o → (i : Scalar) → IsInteger i → (t : WgslType) → IsValueType t → ConvertsTo t (scalar U32) →
    IsLeastCandidate (operator o) (scalar i ∷ t ∷ []) (scalar i ∷ scalar U32 ∷ []) (scalar i)
shift_chosen o h i k t v m =
    let os : outers (scalar i ∷ t ∷ []) ≡ plain ∷ plain ∷ [] = ap (λ x. plain ∷ x ∷ []) (outer_of t (scalar U32) v m) in
    row_choice (operator o) (scalar i ∷ t ∷ []) (scalar i ∷ []) _ (scalar i) (two_values (scalar i) t tt v) (All-cons IsValueType (scalar i) [] tt (All-nil IsValueType))
    (ap (λ os. form_of (operator o) os) os ∙ shift_form o h (plain ∷ plain ∷ []) _ refl) ([], refl, (m, refl)) (of_one_type (scalar i)) k

shift_vectors_chosen : (o : BinaryOperator) → IsShift o → (n : ℕ) (i : Scalar) → IsInteger i → (t : WgslType) → IsValueType t → ConvertsTo t (scalar U32) →
    IsLeastCandidate (operator o) (vec n (scalar i) ∷ vec n t ∷ []) (vec n (scalar i) ∷ vec n (scalar U32) ∷ []) (vec n (scalar i))
shift_vectors_chosen o h n i k t v m =
    row_choice (operator o) (vec n (scalar i) ∷ vec n t ∷ []) (scalar i ∷ []) _ (scalar i) (two_values (vec n (scalar i)) (vec n t) tt v) (All-cons IsValueType (scalar i) [] tt (All-nil IsValueType))
    (shift_form o h (layer (vec_of n) ∷ layer (vec_of n) ∷ []) _ refl)
    (scalar i, [], refl, refl, (above_converts (above_inside (vec_of n) (value_above v m)), refl)) (of_one_type (scalar i)) k

scalar_common : (s t : Scalar) (c : WgslType) → IsCommon (scalar s) (scalar t) (Some c) → outer c ≡ plain
scalar_common s t c k = common_has (λ c. outer c ≡ plain) (scalar s) (scalar t) c refl refl k

-- the common type of a scalar and anything is a scalar
pub plain_admits : (c : WgslType) → IsPlainScalar c → Admits any_scalar c
plain_admits (scalar s) h = tt
plain_admits c h = absurd h

pub common_scalar : (s : Scalar) (e c : WgslType) → IsValueType e → IsCommon (scalar s) e (Some c) → Admits any_scalar c
common_scalar s e c ve k = plain_admits c (above_plain (common_join (scalar s) e c tt ve k).left tt)

pub row_chosen : {o : BinaryOperator} {a b l r s : WgslType} → IsRow o a b l r s → IsValueType a → IsValueType b → IsLeastCandidate (operator o) (a ∷ b ∷ []) (l ∷ r ∷ []) s
row_chosen (scalar_row o h x y c k) va vb =
    both_plain (operator o) _ (scalar x) (scalar y) c tt tt (scalar_common x y c k) refl (arithmetic_form o h (plain ∷ plain ∷ []) _ refl) k
    (common_has (λ c. Admits any_scalar c) (scalar x) (scalar y) c tt tt k)
row_chosen (vector_row o h n m e f c k) va vb = vectors_chosen o h n m e f c k va vb
row_chosen (scalar_vector_row o h s n e c k) va vb =
    right_layered (operator o) _ s (vec_of n) e c vb refl (arithmetic_form o h (plain ∷ layer (vec_of n) ∷ []) _ refl) k (common_scalar s e c vb k)
row_chosen (vector_scalar_row o h n e s c k) va vb =
    left_layered (operator o) _ (vec_of n) e s c va refl (arithmetic_form o h (layer (vec_of n) ∷ plain ∷ []) _ refl) k (common_scalar s e c va (common_symmetric e (scalar s) (Some c) k))
row_chosen (matrix_row o h c r e f d k) va vb = matrices_chosen o h c r e f d k va vb
row_chosen (scalar_matrix_row s c r e d k) va vb = right_layered (operator Multiplication) _ s (mat_of c r) e d vb refl refl k (common_scalar s e d vb k)
row_chosen (matrix_scalar_row c r e s d k) va vb = left_layered (operator Multiplication) _ (mat_of c r) e s d va refl refl k (common_scalar s e d va (common_symmetric e (scalar s) (Some d) k))
row_chosen (vector_matrix_row c r e f d k) va vb = both_layered (operator Multiplication) _ (vec_of r) (mat_of c r) e f d va vb refl refl k tt
row_chosen (matrix_vector_row c r e f d k) va vb = both_layered (operator Multiplication) _ (mat_of c r) (vec_of c) e f d va vb refl refl k tt
row_chosen (matrix_matrix_row k c r e f d m) va vb = both_layered (operator Multiplication) _ (mat_of k r) (mat_of c k) e f d va vb refl refl m tt
row_chosen (comparison_row o h a b s k) va vb = both_plain (operator o) _ a b (scalar s) va vb refl refl (comparison_form o h (plain ∷ plain ∷ []) _ refl) k tt
row_chosen (comparison_vector_row o h a b n e k) va vb = layered_common (operator o) _ n a b e va vb refl (comparison_form o h (layer (vec_of n) ∷ layer (vec_of n) ∷ []) _ refl) k tt
row_chosen (logical_row o h) va vb = logical_chosen o h
row_chosen (bools_row o h n a b k) va vb = bools_chosen o h n a b k va vb
row_chosen (bit_row o h a b c k i) va vb = bits_chosen o h a b c k i va vb
row_chosen (shift_row o h i k t m) va vb = shift_chosen o h i k t vb m
row_chosen (shift_vector_row o h n i k t m) va vb = shift_vectors_chosen o h n i k t vb m

-- A candidate that takes the operands has a row.

abbrev HasRow : BinaryOperator → WgslType → WgslType → Type 0
HasRow o a b = (l r s : WgslType) × IsRow o a b l r s

taken_two : (a b u v : WgslType) (ws : List ℕ) → IsValueType a → IsValueType b → HasRanks (a ∷ b ∷ []) (u ∷ v ∷ []) ws → Above a u × Above b v
taken_two a b u v [] va vb h = absurd h
taken_two a b u v (w ∷ []) va vb h = absurd h.1
taken_two a b u v (w ∷ x ∷ ws) va vb h = ((value_converts va h.0).0, (value_converts vb h.1.0).0)

pub join_of : (a b c : WgslType) → Above a c → Above b c → (d : WgslType) × IsCommon a b (Some d)
join_of a b c h k = let m = some_common a b in go m.0 m.1
  where
    go : (r : Option WgslType) → IsCommon a b r → (d : WgslType) × IsCommon a b (Some d)
    go None m = absurd (no_common a b m c h k)
    go (Some d) m = (d, m)

as_integer : (t : WgslType) → Admits an_integer t → (s : Scalar) × (t ≡ scalar s) × IsInteger s
as_integer (scalar s) h = (s, refl, h)
as_integer t h = absurd h

bool_scalar : (s : Scalar) → Admits a_bool (scalar s) → scalar s ≡ scalar Bool
bool_scalar Bool h = refl
bool_scalar s h = absurd h

as_bool : (t : WgslType) → Admits a_bool t → t ≡ scalar Bool
as_bool (scalar s) h = bool_scalar s h
as_bool t h = absurd h

pub scalar_above : {t : WgslType} {s : Scalar} → Above t (scalar s) → (r : Scalar) × (t ≡ scalar r)
scalar_above {t} h = as_scalar t (above_admits h any_scalar tt tt)

integer_above : {t : WgslType} {s : Scalar} → Above t (scalar s) → IsInteger s → (r : Scalar) × (t ≡ scalar r) × IsInteger r
integer_above {t} h i = as_integer t (above_admits h an_integer tt i)

pub bool_above : {t : WgslType} → Above t (scalar Bool) → t ≡ scalar Bool
bool_above {t} h = as_bool t (above_admits h a_bool tt tt)

pub layer_above : {t : WgslType} {l : Layer} {c : WgslType} → Above t (within l c) → (e : WgslType) × (t ≡ within l e) × Above e c
layer_above {l = l} {c = c} h = above_to_within h l c refl

at_types : (o : BinaryOperator) (a b a' b' : WgslType) → a ≡ a' → b ≡ b' → HasRow o a' b' → HasRow o a b
at_types o a b a' b' p q h = subst₂ (λ a b. HasRow o a b) (sym p) (sym q) h

compared_row : (o : BinaryOperator) → IsComparison o → (a b d : WgslType) → IsCommon a b (Some d) → Admits any_scalar d → HasRow o a b
compared_row o h a b d k m =
    let x = as_scalar d m in
    (scalar x.0, scalar x.0, scalar Bool, comparison_row o h a b x.0 (subst (λ d. IsCommon a b (Some d)) x.1 k))

compared_vectors_row : (o : BinaryOperator) → IsComparison o → (n : ℕ) (e f : WgslType) → IsValueType e → IsValueType f → (d : WgslType) → IsCommon (vec n e) (vec n f) (Some d) → HasRow o (vec n e) (vec n f)
compared_vectors_row o h n e f ve vf d k =
    let x = common_within (vec_of n) (vec_of n) e f d ve vf k in
    (vec n x.0, vec n x.0, vec n (scalar Bool), comparison_vector_row o h (vec n e) (vec n f) n x.0 (subst (λ d. IsCommon (vec n e) (vec n f) (Some d)) x.2 k))

bits_row : (o : BinaryOperator) → IsBitwise o → (a b d : WgslType) → IsCommon a b (Some d) → IsIntegerOrVector d → HasRow o a b
bits_row o h a b d k m = (d, d, d, bit_row o h a b d k m)

integer_ok : (d : WgslType) → Admits an_integer d → IsIntegerOrVector d
integer_ok (scalar s) h = h
integer_ok d h = absurd h

integer_vector_ok : (n : ℕ) (d : WgslType) → Admits an_integer d → IsIntegerOrVector (vec n d)
integer_vector_ok n (scalar s) h = h
integer_vector_ok n d h = absurd h

has_row : {o : BinaryOperator} {u v r : WgslType} → IsCandidate (operator o) (u ∷ v ∷ []) r → (a b : WgslType) → IsValueType a → IsValueType b → Above a u → Above b v → HasRow o a b
has_row (scalars o h s) a b va vb p q =
    let x = scalar_above p in
    let y = scalar_above q in
    let d = join_of a b (scalar s) p q in
    at_types o a b (scalar x.0) (scalar y.0) x.1 y.1
    (d.0, d.0, d.0, scalar_row o h x.0 y.0 d.0 (subst₂ (λ a b. IsCommon a b (Some d.0)) x.1 y.1 d.1))
has_row (vectors o h n e) a b va vb p q =
    let x = layer_above p in
    let y = layer_above q in
    let d = join_of a b (vec n e) p q in
    at_types o a b (vec n x.0) (vec n y.0) x.1 y.1
    (d.0, d.0, d.0, vector_row o h n n x.0 y.0 d.0 (subst₂ (λ a b. IsCommon a b (Some d.0)) x.1 y.1 d.1))
has_row (scalar_vector o h s n) a b va vb p q =
    let x = scalar_above p in
    let y = layer_above q in
    let d = join_of a y.0 (scalar s) p y.2 in
    at_types o a b (scalar x.0) (vec n y.0) x.1 y.1
    (d.0, vec n d.0, vec n d.0, scalar_vector_row o h x.0 n y.0 d.0 (subst (λ a. IsCommon a y.0 (Some d.0)) x.1 d.1))
has_row (vector_scalar o h s n) a b va vb p q =
    let x = layer_above p in
    let y = scalar_above q in
    let d = join_of x.0 b (scalar s) x.2 q in
    at_types o a b (vec n x.0) (scalar y.0) x.1 y.1
    (vec n d.0, d.0, vec n d.0, vector_scalar_row o h n x.0 y.0 d.0 (subst (λ b. IsCommon x.0 b (Some d.0)) y.1 d.1))
has_row (matrices o h c r e) a b va vb p q =
    let x = layer_above p in
    let y = layer_above q in
    let d = join_of x.0 y.0 e x.2 y.2 in
    at_types o a b (mat c r x.0) (mat c r y.0) x.1 y.1 (mat c r d.0, mat c r d.0, mat c r d.0, matrix_row o h c r x.0 y.0 d.0 d.1)
has_row (scalar_matrix s c r) a b va vb p q =
    let x = scalar_above p in
    let y = layer_above q in
    let d = join_of a y.0 (scalar s) p y.2 in
    at_types Multiplication a b (scalar x.0) (mat c r y.0) x.1 y.1
    (d.0, mat c r d.0, mat c r d.0, scalar_matrix_row x.0 c r y.0 d.0 (subst (λ a. IsCommon a y.0 (Some d.0)) x.1 d.1))
has_row (matrix_scalar s c r) a b va vb p q =
    let x = layer_above p in
    let y = scalar_above q in
    let d = join_of x.0 b (scalar s) x.2 q in
    at_types Multiplication a b (mat c r x.0) (scalar y.0) x.1 y.1
    (mat c r d.0, d.0, mat c r d.0, matrix_scalar_row c r x.0 y.0 d.0 (subst (λ b. IsCommon x.0 b (Some d.0)) y.1 d.1))
has_row (vector_matrix c r e) a b va vb p q =
    let x = layer_above p in
    let y = layer_above q in
    let d = join_of x.0 y.0 e x.2 y.2 in
    at_types Multiplication a b (vec r x.0) (mat c r y.0) x.1 y.1 (vec r d.0, mat c r d.0, vec c d.0, vector_matrix_row c r x.0 y.0 d.0 d.1)
has_row (matrix_vector c r e) a b va vb p q =
    let x = layer_above p in
    let y = layer_above q in
    let d = join_of x.0 y.0 e x.2 y.2 in
    at_types Multiplication a b (mat c r x.0) (vec c y.0) x.1 y.1 (mat c r d.0, vec c d.0, vec r d.0, matrix_vector_row c r x.0 y.0 d.0 d.1)
has_row (matrix_matrix k c r e) a b va vb p q =
    let x = layer_above p in
    let y = layer_above q in
    let d = join_of x.0 y.0 e x.2 y.2 in
    at_types Multiplication a b (mat k r x.0) (mat c k y.0) x.1 y.1 (mat k r d.0, mat c k d.0, mat c r d.0, matrix_matrix_row k c r x.0 y.0 d.0 d.1)
has_row (compared o h s) a b va vb p q =
    let d = join_of a b (scalar s) p q in
    compared_row o h a b d.0 d.1 (common_has (λ c. Admits any_scalar c) a b d.0 (above_admits p any_scalar tt tt) (above_admits q any_scalar tt tt) d.1)
has_row (compared_vectors o h n e) a b va vb p q =
    let x = layer_above p in
    let y = layer_above q in
    let d = join_of (vec n x.0) (vec n y.0) (vec n e) (above_inside (vec_of n) x.2) (above_inside (vec_of n) y.2) in
    at_types o a b (vec n x.0) (vec n y.0) x.1 y.1
    (compared_vectors_row o h n x.0 y.0 (subst IsValueType x.1 va) (subst IsValueType y.1 vb) d.0 d.1)
has_row (logical o h) a b va vb p q =
    at_types o a b (scalar Bool) (scalar Bool) (bool_above p) (bool_above q) (scalar Bool, scalar Bool, scalar Bool, logical_row o h)
has_row (bits o h i k) a b va vb p q =
    let d = join_of a b (scalar i) p q in
    bits_row o h a b d.0 d.1 (integer_ok d.0 (common_has (λ c. Admits an_integer c) a b d.0 (above_admits p an_integer tt k) (above_admits q an_integer tt k) d.1))
has_row (bits_vectors o h n i k) a b va vb p q =
    let x = layer_above p in
    let y = layer_above q in
    let d = join_of (vec n x.0) (vec n y.0) (vec n (scalar i)) (above_inside (vec_of n) x.2) (above_inside (vec_of n) y.2) in
    let m = common_within (vec_of n) (vec_of n) x.0 y.0 d.0 (subst IsValueType x.1 va) (subst IsValueType y.1 vb) d.1 in
    let z = common_has (λ c. Admits an_integer c) x.0 y.0 m.0 (above_admits x.2 an_integer tt k) (above_admits y.2 an_integer tt k) m.3 in
    at_types o a b (vec n x.0) (vec n y.0) x.1 y.1
    (bits_row o h (vec n x.0) (vec n y.0) (vec n m.0) (subst (λ d. IsCommon (vec n x.0) (vec n y.0) (Some d)) m.2 d.1) (integer_vector_ok n m.0 z))
has_row (bools_vectors o h n) a b va vb p q =
    let x = layer_above p in
    let y = layer_above q in
    let t = vec n (scalar Bool) in
    at_types o a b t t (x.1 ∙ ap (λ t. vec n t) (bool_above x.2)) (y.1 ∙ ap (λ t. vec n t) (bool_above y.2))
    (t, t, t, bools_row o h n t t (self_common t))
has_row (shifted o h i k) a b va vb p q =
    let x = integer_above p k in
    at_types o a b (scalar x.0) b x.1 refl (scalar x.0, scalar U32, scalar x.0, shift_row o h x.0 x.2 b (above_converts q))
has_row (shifted_vectors o h n i k) a b va vb p q =
    let x = layer_above p in
    let y = layer_above q in
    let z = integer_above x.2 k in
    at_types o a b (vec n (scalar z.0)) (vec n y.0) (x.1 ∙ ap (λ t. vec n t) z.1) y.1
    (vec n (scalar z.0), vec n (scalar U32), vec n (scalar z.0), shift_vector_row o h n z.0 z.2 y.0 (above_converts y.2))
has_row (of_two n h t k) a b va vb p q = absurd h

pub row_refused : (o : BinaryOperator) (a b : WgslType) → IsValueType a → IsValueType b → ((l r s : WgslType) → ¬ IsRow o a b l r s) →
    (us : List WgslType) (r : WgslType) → IsCandidate (operator o) us r → ¬ Takes us (a ∷ b ∷ [])
row_refused o a b va vb n [] r q t = refused t.0 t.1
  where
    refused : (ws : List ℕ) → HasRanks (a ∷ b ∷ []) [] ws → ⊥
    refused [] h = h
    refused (w ∷ ws) h = h
row_refused o a b va vb n (u ∷ []) r q t = refused t.0 t.1
  where
    refused : (ws : List ℕ) → HasRanks (a ∷ b ∷ []) (u ∷ []) ws → ⊥
    refused [] h = h
    refused (w ∷ []) h = h.1
    refused (w ∷ x ∷ ws) h = h.1
row_refused o a b va vb n (u ∷ v ∷ []) r q t =
    let k = taken_two a b u v t.0 va vb t.1 in
    let m = has_row q a b va vb k.0 k.1 in
    n m.0 m.1 m.2 m.3
row_refused o a b va vb n (u ∷ v ∷ x ∷ us) r q t = refused t.0 t.1
  where
    refused : (ws : List ℕ) → HasRanks (a ∷ b ∷ []) (u ∷ v ∷ x ∷ us) ws → ⊥
    refused [] h = h
    refused (w ∷ []) h = h.1
    refused (w ∷ y ∷ ws) h = h.1.1
