-- The candidate found for the operands of a binary operator is that of a row.
use Rattle.std.proofs.Common.{◌≡◌, ℕ, ◌⊎◌, [], ◌∷◌, Ok, Err, Option, Some, None, option_map, refl, sym, ap, ◌∙◌, subst, subst₂, inl, inr, Bor}
use Rattle.wgsl_core.proofs.Common.{Scalar, Bool, U32, BinaryOperator, mat_of, WgslType, scalar, within, vec, mat, IsScalar, IsVector, IsInteger, IsIntegerScalar, IsIntegerOrVector, ConvertsTo, IsCommon, Refusal, binary, BinaryCandidate, HasCandidate, IsChosenResult, IsChosenCandidate, «Type», form_view, Form}
use Rattle.wgsl_syntax.specs.declared.operator.BinaryOperator.TheVariants.{Multiplication}
use Rattle.wgsl_syntax.specs.declared.overload.Dimensions.{Dimensions}
use Rattle.wgsl_syntax.specs.declared.overload.Dimensions.TheVariants.{Single, Vector, Matrix}
use Rattle.wgsl_rules.specs.operators.Candidates.{operator, IsArithmetic, IsSum, IsComparison, IsLogical, IsBitwise, IsOrAnd, IsShift}
use Rattle.wgsl_rules.specs.operators.Rows.{scalar_row, vector_row, scalar_vector_row, vector_scalar_row, matrix_row, scalar_matrix_row, matrix_scalar_row, vector_matrix_row, matrix_vector_row, matrix_matrix_row, comparison_row, comparison_vector_row, logical_row, bools_row, bit_row, shift_row, shift_vector_row}
use Rattle.wgsl_rules.specs.Headline.{IsChosenAnswer}
use Rattle.wgsl_rules.proofs.operators.Groups.{Fits, IsShifted}
use Rattle.wgsl_rules.proofs.operators.Rows.{unfit, elements_apart, not_compared, not_shifted, chosen, result_chosen, nothing_chosen}
use Rattle.wgsl_core.specs.declared.ty.form.Form.TheVariants as forms
use Rattle.wgsl_core.specs.internal.Resolution.{in_layers, IsInLayers, compared_at, shifted_at}

-- neither a scalar nor a vector nor a matrix
abbrev pub IsNoOperand : WgslType → Type 0
IsNoOperand (scalar s) = ⊥
IsNoOperand (vec n t) = ⊥
IsNoOperand (mat c r t) = ⊥
IsNoOperand t = Unit {0}

-- the candidate found for an arithmetic operator
abbrev pub Finds : BinaryOperator → WgslType → WgslType → Option BinaryCandidate → Type 0
Finds o a b found = IsArithmetic o → HasCandidate o a b found

found_in_layers : {o : BinaryOperator} {a b x y : WgslType} (l m k : Dimensions) (found : Option BinaryCandidate) →
    ((c : WgslType) → IsCommon x y (Some c) → HasCandidate o a b (Some (in_layers l m k c))) → (IsCommon x y None → HasCandidate o a b None) →
    IsInLayers l m k x y found → HasCandidate o a b found
found_in_layers {o} {a} {b} {x} {y} l m k found some none h = subst (λ f. HasCandidate o a b f) (sym h.2) (at h.0 h.1)
  where
    at : (c : Option WgslType) → IsCommon x y c → HasCandidate o a b (option_map (in_layers l m k) c)
    at (Some c) q = some c q
    at None q = none q

by_forms : (P : WgslType → WgslType → Type 0) {a b x y : WgslType} → a ≡ x → b ≡ y → P x y → P a b
by_forms P p q h = subst₂ P (sym p) (sym q) h

pub both_scalars : (o : BinaryOperator) {a b : WgslType} {s t : Scalar} {found : Option BinaryCandidate} → a ≡ scalar s → b ≡ scalar t →
    IsInLayers Single Single Single a b found → Finds o a b found
both_scalars o {s = s} {t} {found} p q =
    by_forms (λ a b. IsInLayers Single Single Single a b found → Finds o a b found) p q
    (λ k h. found_in_layers Single Single Single found (λ c m. scalar_row o h s t c m) (λ m. elements_apart m h) k)

pub both_vectors : (o : BinaryOperator) {a b : WgslType} {n m : ℕ} {e f : WgslType} {found : Option BinaryCandidate} → a ≡ vec n e → b ≡ vec m f →
    IsInLayers Single Single Single a b found → Finds o a b found
both_vectors o {n = n} {m} {e} {f} {found} p q =
    by_forms (λ a b. IsInLayers Single Single Single a b found → Finds o a b found) p q
    (λ k h. found_in_layers Single Single Single found (λ c k. vector_row o h n m e f c k) (λ m. elements_apart m h) k)

pub scalar_vector : (o : BinaryOperator) {a b : WgslType} {s : Scalar} {n : ℕ} {f : WgslType} {found : Option BinaryCandidate} → a ≡ scalar s → b ≡ vec n f →
    IsInLayers Single (Vector n) (Vector n) a f found → Finds o a b found
scalar_vector o {s = s} {n} {f} {found} p q =
    let v = Vector n in
    by_forms (λ a b. IsInLayers Single v v a f found → Finds o a b found) p q
    (λ k h. found_in_layers Single v v found (λ c m. scalar_vector_row o h s n f c m) (λ m. elements_apart m h) k)

pub vector_scalar : (o : BinaryOperator) {a b : WgslType} {n : ℕ} {e : WgslType} {t : Scalar} {found : Option BinaryCandidate} → a ≡ vec n e → b ≡ scalar t →
    IsInLayers (Vector n) Single (Vector n) e b found → Finds o a b found
vector_scalar o {n = n} {e} {t} {found} p q =
    let v = Vector n in
    by_forms (λ a b. IsInLayers v Single v e b found → Finds o a b found) p q
    (λ k h. found_in_layers v Single v found (λ c m. vector_scalar_row o h n e t c m) (λ m. elements_apart m h) k)

-- products

product : (o : BinaryOperator) (a b : WgslType) (found : Option BinaryCandidate) → o ≡ Multiplication → HasCandidate Multiplication a b found → Finds o a b found
product o a b found e h = subst (λ o. Finds o a b found) (sym e) (λ _. h)

pub scalar_matrix : {o : BinaryOperator} {a b : WgslType} {s : Scalar} {c r : ℕ} {f : WgslType} {found : Option BinaryCandidate} → o ≡ Multiplication →
    a ≡ scalar s → b ≡ mat c r f → IsInLayers Single (Matrix c r) (Matrix c r) a f found → Finds o a b found
scalar_matrix {o} {s = s} {c} {r} {f} {found} e p q =
    let l = Matrix c r in
    by_forms (λ a b. IsInLayers Single l l a f found → Finds o a b found) p q
    (λ k. product o _ _ found e (found_in_layers Single l l found (λ d m. scalar_matrix_row s c r f d m) (λ m. elements_apart m tt) k))

pub vector_matrix : {o : BinaryOperator} {a b : WgslType} {n c r : ℕ} {e f : WgslType} {found : Option BinaryCandidate} → (o ≡ Multiplication) × (n ≡ r) →
    a ≡ vec n e → b ≡ mat c r f → IsInLayers (Vector n) (Matrix c r) (Vector c) e f found → Finds o a b found
vector_matrix {o} {a} {b} {n} {c} {r} {e} {f} {found} m p q k =
    let k' = subst (λ n. IsInLayers (Vector n) (Matrix c r) (Vector c) e f found) m.1 k in
    let p' = subst (λ n. a ≡ vec n e) m.1 p in
    by_forms (λ a b. Finds o a b found) p' q
    (product o _ _ found m.0 (found_in_layers (Vector r) (Matrix c r) (Vector c) found (λ d k. vector_matrix_row c r e f d k) (λ k. elements_apart k tt) k'))

pub matrix_scalar : {o : BinaryOperator} {b : WgslType} {c r : ℕ} {e : WgslType} {t : Scalar} {found : Option BinaryCandidate} → o ≡ Multiplication →
    b ≡ scalar t → IsInLayers (Matrix c r) Single (Matrix c r) e b found → Finds o (mat c r e) b found
matrix_scalar {o} {b} {c} {r} {e} {t} {found} m q k =
    let l = Matrix c r in
    subst (λ b. IsInLayers l Single l e b found → Finds o (mat c r e) b found) (sym q)
    (λ k. product o _ _ found m (found_in_layers l Single l found (λ d k. matrix_scalar_row c r e t d k) (λ k. elements_apart k tt) k)) k

pub matrix_vector : {o : BinaryOperator} {b : WgslType} {c r n : ℕ} {e f : WgslType} {found : Option BinaryCandidate} → (o ≡ Multiplication) × (c ≡ n) →
    b ≡ vec n f → IsInLayers (Matrix c r) (Vector n) (Vector r) e f found → Finds o (mat c r e) b found
matrix_vector {o} {b} {c} {r} {n} {e} {f} {found} m q k =
    let k' = subst (λ n. IsInLayers (Matrix c r) (Vector n) (Vector r) e f found) (sym m.1) k in
    subst (λ b. Finds o (mat c r e) b found) (sym (subst (λ n. b ≡ vec n f) (sym m.1) q))
    (product o _ _ found m.0 (found_in_layers (Matrix c r) (Vector c) (Vector r) found (λ d k. matrix_vector_row c r e f d k) (λ k. elements_apart k tt) k'))

pub matrix_product : {o : BinaryOperator} {b : WgslType} {c r d s : ℕ} {e f : WgslType} {found : Option BinaryCandidate} → (o ≡ Multiplication) × (c ≡ s) →
    b ≡ mat d s f → IsInLayers (Matrix c r) (Matrix d s) (Matrix d r) e f found → Finds o (mat c r e) b found
matrix_product {o} {b} {c} {r} {d} {s} {e} {f} {found} m q k =
    let k' = subst (λ s. IsInLayers (Matrix c r) (Matrix d s) (Matrix d r) e f found) (sym m.1) k in
    subst (λ b. Finds o (mat c r e) b found) (sym (subst (λ s. b ≡ mat d s f) (sym m.1) q))
    (product o _ _ found m.0 (found_in_layers (Matrix c r) (Matrix d c) (Matrix d r) found (λ t k. matrix_matrix_row c d r e f t k) (λ k. elements_apart k tt) k'))

pub matrix_sum : (o : BinaryOperator) {b : WgslType} {c r d s : ℕ} {e f : WgslType} {found : Option BinaryCandidate} → IsSum o × (mat_of c r ≡ mat_of d s) →
    b ≡ mat d s f → IsInLayers (Matrix c r) (Matrix c r) (Matrix c r) e f found → Finds o (mat c r e) b found
matrix_sum o {b} {c} {r} {d} {s} {e} {f} {found} m q k h =
    let l = Matrix c r in
    let q' : b ≡ mat c r f = subst (λ l. b ≡ within l f) (sym m.1) q in
    subst (λ b. HasCandidate o (mat c r e) b found) (sym q')
    (found_in_layers l l l found (λ t k. matrix_row o m.0 c r e f t k) (λ k. elements_apart k h) k)

-- nothing is found

pub unfit_forms : {o : BinaryOperator} {a b x y : WgslType} → a ≡ x → b ≡ y → ¬ Fits o x y → Finds o a b None
unfit_forms {o} p q n = by_forms (λ a b. Finds o a b None) p q (unfit n)

no_left : (o : BinaryOperator) (a b : WgslType) → IsNoOperand a → ¬ Fits o a b
no_left o (scalar s) b n h = n
no_left o (vec m e) b n h = n
no_left o (mat c r e) b n h = n
no_left o a b n h = h

no_right : (o : BinaryOperator) (a b : WgslType) → IsNoOperand b → ¬ Fits o a b
no_right o a (scalar t) n h = n
no_right o a (vec m f) n h = n
no_right o a (mat d s f) n h = n
no_right o (scalar s) b n h = h
no_right o (vec m e) b n h = h
no_right o (mat c r e) b n h = h
no_right o a b n h = h

pub unfit_left : {o : BinaryOperator} {a b : WgslType} → IsNoOperand a → Finds o a b None
unfit_left {o} {a} {b} n = unfit (no_left o a b n)

pub unfit_right : {o : BinaryOperator} {a b : WgslType} → IsNoOperand b → Finds o a b None
unfit_right {o} {a} {b} n = unfit (no_right o a b n)

-- comparison, by the common type

pub compared_scalars : {a b c : WgslType} {s : Scalar} {found : BinaryCandidate} → found ≡ compared_at c Single → c ≡ scalar s → IsCommon a b (Some c) →
    (o : BinaryOperator) → IsComparison o → HasCandidate o a b (Some found)
compared_scalars {a} {b} {c} {s} e p k o h =
    subst (λ f. HasCandidate o a b (Some f)) (sym (e ∙ ap (λ c. compared_at c Single) p)) (comparison_row o h a b s (subst (λ c. IsCommon a b (Some c)) p k))

pub compared_vectors : {a b c e : WgslType} {n : ℕ} {found : BinaryCandidate} → found ≡ compared_at c (Vector n) → c ≡ vec n e → IsCommon a b (Some c) →
    (o : BinaryOperator) → IsComparison o → HasCandidate o a b (Some found)
compared_vectors {a} {b} {c} {e} {n} q p k o h =
    subst (λ f. HasCandidate o a b (Some f)) (sym (q ∙ ap (λ c. compared_at c (Vector n)) p))
    (comparison_vector_row o h a b n e (subst (λ c. IsCommon a b (Some c)) p k))

pub form_not_compared : {a b c : WgslType} {f : Form} → c ≡ form_view f → ((s : Scalar) → f ≡ forms.Scalar s → ⊥) → ((n : ℕ) (e : Bor «Type») → f ≡ forms.Vector n e → ⊥) →
    IsCommon a b (Some c) → (o : BinaryOperator) → IsComparison o → HasCandidate o a b None
form_not_compared {f = f} p s v k o h = not_compared k (subst (λ c. ¬ (IsScalar c ⊎ IsVector c)) (sym p) (neither f s v)) h
  where
    neither : (f : Form) → ((s : Scalar) → f ≡ forms.Scalar s → ⊥) → ((n : ℕ) (e : Bor «Type») → f ≡ forms.Vector n e → ⊥) → ¬ (IsScalar (form_view f) ⊎ IsVector (form_view f))
    neither (forms.Scalar x) s v y = s x refl
    neither (forms.Vector n e) s v y = v n e refl
    neither f s v (inl x) = x
    neither f s v (inr x) = x

abbrev pub candidate_of : WgslType → WgslType → WgslType → BinaryCandidate
candidate_of l m r = record { lhs = l; rhs = m; result = r }

pub same_candidate : {l m r x y z : WgslType} → l ≡ x → m ≡ y → r ≡ z → candidate_of l m r ≡ candidate_of x y z
same_candidate p q e = cc (p, q, e)

-- the short-circuit operators, `||` and `&&`
pub bools_found : {a b : WgslType} {found : BinaryCandidate} → (a ≡ scalar Bool) × (b ≡ scalar Bool) → found ≡ candidate_of a b a →
    (o : BinaryOperator) → IsLogical o → HasCandidate o a b (Some found)
bools_found {a} {b} m e o h =
    subst (λ f. HasCandidate o a b (Some f)) (sym e)
    (by_forms (λ a b. HasCandidate o a b (Some (candidate_of a b a))) m.0 m.1 (logical_row o h))

-- bits
pub bits_found : {o : BinaryOperator} {a b c : WgslType} {found : BinaryCandidate} → IsCommon a b (Some c) → IsIntegerOrVector c ⊎ (IsOrAnd o × ((n : ℕ) × (c ≡ vec n (scalar Bool)))) →
    found ≡ candidate_of c c c → IsBitwise o → HasCandidate o a b (Some found)
bits_found {o} {a} {b} {c} k (inl i) e h = subst (λ f. HasCandidate o a b (Some f)) (sym e) (bit_row o h a b c k i)
bits_found {o} {a} {b} {c} k (inr m) e h =
    subst (λ f. HasCandidate o a b (Some f)) (sym (e ∙ ap (λ c. candidate_of c c c) m.1.1))
    (bools_row o m.0 m.1.0 a b (subst (λ c. IsCommon a b (Some c)) m.1.1 k))

-- shifts

pub shifted_scalars : {a b : WgslType} {s : Scalar} {found : BinaryCandidate} → found ≡ shifted_at a Single → a ≡ scalar s → IsIntegerScalar a × ConvertsTo b (scalar U32) →
    (o : BinaryOperator) → IsShift o → HasCandidate o a b (Some found)
shifted_scalars {a} {b} {s} e p m o h =
    subst (λ f. HasCandidate o a b (Some f)) (sym e)
    (subst (λ a. IsIntegerScalar a → HasCandidate o a b (Some (shifted_at a Single))) (sym p) (λ i. shift_row o h s i b m.1) m.0)

pub scalars_not_shifted : {a b : WgslType} {s : Scalar} → a ≡ scalar s → ¬ (IsIntegerScalar a × ConvertsTo b (scalar U32)) → (o : BinaryOperator) → IsShift o → HasCandidate o a b None
scalars_not_shifted {a} {b} {s} p n o h =
    subst (λ a. ¬ (IsIntegerScalar a × ConvertsTo b (scalar U32)) → HasCandidate o a b None) (sym p) (λ n. not_shifted n h) n

by_integer : (P : WgslType → Type 0) (e : WgslType) → IsIntegerScalar e → ((i : Scalar) → IsInteger i → P (scalar i)) → P e
by_integer P (scalar i) h p = p i h
by_integer P e h p = absurd h

pub shifted_vectors : {a b e f : WgslType} {n m : ℕ} {found : BinaryCandidate} → found ≡ shifted_at a (Vector n) → a ≡ vec n e → b ≡ vec m f → n ≡ m →
    IsIntegerScalar e × ConvertsTo f (scalar U32) → (o : BinaryOperator) → IsShift o → HasCandidate o a b (Some found)
shifted_vectors {a} {b} {e} {f} {n} {m} q p r k x o h =
    let r' : b ≡ vec n f = subst (λ m. b ≡ vec m f) (sym k) r in
    subst (λ f. HasCandidate o a b (Some f)) (sym q)
    (by_forms (λ a b. HasCandidate o a b (Some (shifted_at a (Vector n)))) p r'
    (by_integer (λ e. HasCandidate o (vec n e) (vec n f) (Some (shifted_at (vec n e) (Vector n)))) e x.0 (λ i j. shift_vector_row o h n i j f x.1)))

pub vectors_not_shifted : {a b e f : WgslType} {n m : ℕ} → a ≡ vec n e → b ≡ vec m f → ¬ ((n ≡ m) × IsIntegerScalar e × ConvertsTo f (scalar U32)) →
    (o : BinaryOperator) → IsShift o → HasCandidate o a b None
vectors_not_shifted {e = e} {f} {n} {m} p r k o h = by_forms (λ a b. HasCandidate o a b None) p r (not_shifted (refused e k) h)
  where
    refused : (e : WgslType) → ¬ ((n ≡ m) × IsIntegerScalar e × ConvertsTo f (scalar U32)) → ¬ IsShifted (vec n e) (vec m f)
    refused (scalar i) k x = k x
    refused e k x = x

pub vector_by_other : {a b e : WgslType} {n : ℕ} {f : Form} → a ≡ vec n e → b ≡ form_view f → ((m : ℕ) (t : Bor «Type») → f ≡ forms.Vector m t → ⊥) →
    (o : BinaryOperator) → IsShift o → HasCandidate o a b None
vector_by_other {e = e} {n} {f} p q v o h = by_forms (λ a b. HasCandidate o a b None) p q (not_shifted (apart e f v) h)
  where
    apart : (e : WgslType) (f : Form) → ((m : ℕ) (t : Bor «Type») → f ≡ forms.Vector m t → ⊥) → ¬ IsShifted (vec n e) (form_view f)
    apart (scalar i) (forms.Vector m t) v x = v m t refl
    apart (scalar i) f v x = x
    apart e f v x = x

-- the least candidate is built; if none is found, no candidate takes the operands

pub chosen_result : {o : BinaryOperator} {a b t : WgslType} {found : BinaryCandidate} → HasCandidate o a b (Some found) → t ≡ found.result → IsChosenResult o a b (Ok t)
unfolding IsChosenResult
chosen_result {o} {a} {b} {t} {found} k e va vb = subst (λ t. IsChosenAnswer (operator o) (a ∷ b ∷ []) (Some t)) (sym e) (result_chosen found k va vb)

pub chosen_candidate : {o : BinaryOperator} {a b : WgslType} {found : BinaryCandidate} (c : BinaryCandidate) → HasCandidate o a b (Some found) → c ≡ found → IsChosenCandidate o a b (Ok c)
unfolding IsChosenCandidate
chosen_candidate {o} {a} {b} {found} c k e = subst (λ c. IsChosenCandidate o a b (Ok c)) (sym e) (chosen found k)

pub refused_result : {o : BinaryOperator} {a b : WgslType} {e : Refusal} → HasCandidate o a b None → e ≡ binary o a b → IsChosenResult o a b (Err e)
unfolding IsChosenResult
refused_result k e va vb = (e, nothing_chosen k va vb)

pub refused_candidate : {o : BinaryOperator} {a b : WgslType} {e : Refusal} → HasCandidate o a b None → e ≡ binary o a b → IsChosenCandidate o a b (Err e)
unfolding IsChosenCandidate
refused_candidate k e va vb = (e, nothing_chosen k va vb)

-- a type of another form than these is no operand of arithmetic
pub no_operand : {f : Form} {t : WgslType} → t ≡ form_view f → ((s : Scalar) → f ≡ forms.Scalar s → ⊥) → ((n : ℕ) (e : Bor «Type») → f ≡ forms.Vector n e → ⊥) →
    ((c r : ℕ) (e : Bor «Type») → f ≡ forms.Matrix c r e → ⊥) → IsNoOperand t
no_operand {f} p a b m = subst IsNoOperand (sym p) (at f a b m)
  where
    at : (f : Form) → ((s : Scalar) → f ≡ forms.Scalar s → ⊥) → ((n : ℕ) (e : Bor «Type») → f ≡ forms.Vector n e → ⊥) → ((c r : ℕ) (e : Bor «Type») → f ≡ forms.Matrix c r e → ⊥) → IsNoOperand (form_view f)
    at (forms.Scalar s) a b m = a s refl
    at (forms.Vector n e) a b m = b n e refl
    at (forms.Matrix c r e) a b m = m c r e refl
    at f a b m = tt
