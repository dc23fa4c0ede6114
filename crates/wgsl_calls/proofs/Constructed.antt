-- The answer of a constructor from the answers of the functions that it calls, for one argument and for several.
use Rattle.std.proofs.Common.{string_bytes, ◌≡◌, ◌≢◌, ℕ, ◌<◌, ◌≤◌, List, [], ◌∷◌, length, map, Option, Some, None, Result, Ok, Err, Bool, IsTrue, ◌↔◌, refl, sym, ap, subst, ◌∙◌, inl, inr, arith, Bor}
use Rattle.wgsl_calls.proofs.Common.{length-map, Scalar, IsMatrix, ConvertsTo, IsConvertedInside, IsLeftCommon, of_no_types, of_one_type, Refusal, builtin, conversion, param_count, param_type, Signature, view, struct_view, members_view, view-struct, StructType, out-StructType, AnswersAs, «Type», Error, Fail, AllConverted}
use Rattle.wgsl_rules.specs.types.Types.{Layer, array_of, vec_of, mat_of, WgslType, scalar, within, array, vec, mat, struct, atomic, pointer, reference, texture, sampler, binding_array, ray_query, acceleration_structure}
use Rattle.wgsl_rules.specs.constructors.Vectors.{IsTypedVectorOfOne, IsTypedVectorOfSeveral, IsTypedVector, IsUntypedVectorOfSeveral, IsUntypedVector}
use Rattle.wgsl_rules.specs.constructors.Matrices.{incompatible_matrix, IsMatrixOf, IsTypedMatrixOf, IsTypedMatrixOfOne, IsTypedMatrix, IsUntypedMatrixOf, IsUntypedMatrixOfOne, IsUntypedMatrix}
use Rattle.wgsl_rules.specs.constructors.Constructors.{Constructor, constructor_of, IsBuilt, IsConstructorAnswer, IsTypedArray, IsFilled, member_count, AllFit, IsFirstMisfit}
use Rattle.wgsl_calls.proofs.Arguments.{count_of_members, misfit_is_no_fit}
use Rattle.wgsl_core.specs.Forms.{form_view, layer_of}
use Rattle.wgsl_core.specs.declared.ty.form.Form.{Form}
use Rattle.wgsl_core.specs.declared.ty.form.Form.TheVariants as forms
use Rattle.wgsl_core.specs.declared.error.Fail.TheVariants as fails

-- arrays: the elements are checked
pub of_elements : (args : List «Type») (n : Option ℕ) (k : ℕ) (t e : WgslType) → 1 ≤ length args → n ≡ Some k → e ≡ t → (r : Result (Unit {0}) (Fail Error)) →
    AnswersAs (λ u. u) (AllConverted e (map view args)) r → AnswersAs (λ u. array n t) (IsTypedArray (map view args) (array n t)) r
of_elements [] n k t e le p q r h = absurd (omega arith)
of_elements (a ∷ args) n k t e le p q r h =
    subst (λ m. AnswersAs (λ u. array m t) (IsTypedArray (map view (a ∷ args)) (array m t)) r) (sym p) (at r (subst (λ u. AnswersAs (λ x. x) (AllConverted u (map view (a ∷ args))) r) q h))
  where
    at : (r : Result (Unit {0}) (Fail Error)) → AnswersAs (λ u. u) (AllConverted t (map view (a ∷ args))) r →
        AnswersAs (λ u. array (Some k) t) (IsTypedArray (map view (a ∷ args)) (array (Some k) t)) r
    at (Ok u) h = inl (h, refl)
    at (Err (fails.Error x)) h = inr (h.0, h.1, ap Err h.2)
    at (Err (fails.Memory x)) h = h

-- constructors with several arguments
pub several_typed : (name : List ℕ) (n : ℕ) (t : WgslType) (args : List «Type») (r : Result WgslType Refusal) → 2 ≤ length args →
    IsTypedVectorOfSeveral name n (map view args) t r → IsTypedVector name n (map view args) t r
several_typed name n t [] r le h = absurd (omega arith)
several_typed name n t (a ∷ []) r le h = absurd (omega arith)
several_typed name n t (a ∷ b ∷ args) r le h = h

pub several_untyped : (name : List ℕ) (n : ℕ) (args : List «Type») (r : Result WgslType Refusal) → 2 ≤ length args →
    IsUntypedVectorOfSeveral name n (map view args) r → IsUntypedVector name n (map view args) r
several_untyped name n [] r le h = absurd (omega arith)
several_untyped name n (a ∷ []) r le h = absurd (omega arith)
several_untyped name n (a ∷ b ∷ args) r le h = h

pub columns_typed : (name : List ℕ) (c n : ℕ) (t u : WgslType) (args : List «Type») → 2 ≤ length args → IsLeftCommon (map view args) (Some u) →
    (r : Result WgslType Refusal) → IsTypedMatrixOf name c n (length args) t u r → IsTypedMatrix name c n (map view args) t r
columns_typed name c n t u [] le l r h = absurd (omega arith)
columns_typed name c n t u (a ∷ []) le l r h = absurd (omega arith)
columns_typed name c n t u (a ∷ b ∷ args) le l r h =
    (Some u, l, subst (λ k. IsTypedMatrixOf name c n k t u r) (sym (length-map (a ∷ b ∷ args) view)) h)

pub columns_untyped : (name : List ℕ) (c n : ℕ) (u : WgslType) (args : List «Type») → 2 ≤ length args → IsLeftCommon (map view args) (Some u) →
    (r : Result WgslType Refusal) → IsUntypedMatrixOf name c n (length args) u r → IsUntypedMatrix name c n (map view args) r
columns_untyped name c n u [] le l r h = absurd (omega arith)
columns_untyped name c n u (a ∷ []) le l r h = absurd (omega arith)
columns_untyped name c n u (a ∷ b ∷ args) le l r h =
    (Some u, l, subst (λ k. IsUntypedMatrixOf name c n k u r) (sym (length-map (a ∷ b ∷ args) view)) h)

-- no arguments have no common type
pub no_columns : (name : List ℕ) (c n : ℕ) (args : List «Type») → length args < 1 → IsUntypedMatrix name c n (map view args) (Err (builtin incompatible_matrix))
no_columns name c n [] lt = (None, of_no_types, refl)
no_columns name c n (a ∷ args) lt = absurd (omega arith)

-- a single argument that isn't a matrix is the common type of the arguments
pub one_typed : (name : List ℕ) (c n : ℕ) (t a : WgslType) → ¬ IsMatrix a → (r : Result WgslType Refusal) →
    IsTypedMatrixOf name c n 1 t a r → IsTypedMatrixOfOne name c n a t r
one_typed name c n t (scalar s) m r h = (Some (scalar s), of_one_type _, h)
one_typed name c n t (array k e) m r h = (Some (array k e), of_one_type _, h)
one_typed name c n t (vec k e) m r h = (Some (vec k e), of_one_type _, h)
one_typed name c n t (mat d s e) m r h = absurd (m tt)
one_typed name c n t (struct s ms) m r h = (Some (struct s ms), of_one_type _, h)
one_typed name c n t (atomic e) m r h = (Some (atomic e), of_one_type _, h)
one_typed name c n t (pointer s e x) m r h = (Some (pointer s e x), of_one_type _, h)
one_typed name c n t (reference s e x) m r h = (Some (reference s e x), of_one_type _, h)
one_typed name c n t (texture x) m r h = (Some (texture x), of_one_type _, h)
one_typed name c n t (sampler x) m r h = (Some (sampler x), of_one_type _, h)
one_typed name c n t (binding_array k e) m r h = (Some (binding_array k e), of_one_type _, h)
one_typed name c n t (ray_query f) m r h = (Some (ray_query f), of_one_type _, h)
one_typed name c n t (acceleration_structure f) m r h = (Some (acceleration_structure f), of_one_type _, h)

pub one_untyped : (name : List ℕ) (c n : ℕ) (a : WgslType) → ¬ IsMatrix a → (r : Result WgslType Refusal) →
    IsUntypedMatrixOf name c n 1 a r → IsUntypedMatrixOfOne name c n a r
one_untyped name c n (scalar s) m r h = (Some (scalar s), of_one_type _, h)
one_untyped name c n (array k e) m r h = (Some (array k e), of_one_type _, h)
one_untyped name c n (vec k e) m r h = (Some (vec k e), of_one_type _, h)
one_untyped name c n (mat d s e) m r h = absurd (m tt)
one_untyped name c n (struct s ms) m r h = (Some (struct s ms), of_one_type _, h)
one_untyped name c n (atomic e) m r h = (Some (atomic e), of_one_type _, h)
one_untyped name c n (pointer s e x) m r h = (Some (pointer s e x), of_one_type _, h)
one_untyped name c n (reference s e x) m r h = (Some (reference s e x), of_one_type _, h)
one_untyped name c n (texture x) m r h = (Some (texture x), of_one_type _, h)
one_untyped name c n (sampler x) m r h = (Some (sampler x), of_one_type _, h)
one_untyped name c n (binding_array k e) m r h = (Some (binding_array k e), of_one_type _, h)
one_untyped name c n (ray_query f) m r h = (Some (ray_query f), of_one_type _, h)
one_untyped name c n (acceleration_structure f) m r h = (Some (acceleration_structure f), of_one_type _, h)

pub no_matrix : {f : Form} {a : WgslType} → a ≡ form_view f → ((c r : ℕ) (e : Bor «Type») → f ≡ forms.Matrix c r e → ⊥) → ¬ IsMatrix a
no_matrix {f} p n = subst (λ a. ¬ IsMatrix a) (sym p) (at f n)
  where
    at : (f : Form) → ((c r : ℕ) (e : Bor «Type») → f ≡ forms.Matrix c r e → ⊥) → ¬ IsMatrix (form_view f)
    at (forms.Matrix c r e) n m = n c r e refl
    at f n m = m

-- the common type of a matrix's arguments, converted inside
abbrev ConvertsInside : WgslType → WgslType → Type 0
ConvertsInside u t = (v : WgslType) × IsConvertedInside u t (Some v)

pub inside_element : {b : Bool} (u t : WgslType) (l : Layer) (e : WgslType) → layer_of u ≡ Some (l, e) → IsTrue b ↔ ConvertsTo e t → IsTrue b ↔ ConvertsInside u t
inside_element {b} (within k f) t l e p i = (λ h. (within k t, (Some t, (j.0 h, refl), refl)), back)
  where
    j : IsTrue b ↔ ConvertsTo f t
    j = let q : ◌≡◌ {A = Layer × WgslType} (k, f) (l, e) = cc p in subst (λ e. IsTrue b ↔ ConvertsTo e t) (sym (ap (λ (q : Layer × WgslType). q.1) q)) i

    back : ConvertsInside (within k f) t → IsTrue b
    back (v, (Some w, c, r)) = j.1 c.0
    back (v, (None, c, r)) = absurd (cc r)
inside_element u t l e p i = absurd (cc p)

pub inside_whole : {b : Bool} (u t : WgslType) → layer_of u ≡ None → IsTrue b ↔ ConvertsTo u t → IsTrue b ↔ ConvertsInside u t
inside_whole (within l e) t p i = absurd (cc p)
inside_whole u t p i = (λ h. (t, (i.0 h, refl)), λ k. i.1 k.1.0)

pub not_inside : (u t : WgslType) → ¬ ConvertsInside u t → IsConvertedInside u t None
not_inside (within l e) t n = (None, λ c. n (within l t, (Some t, (c, refl), refl)), refl)
not_inside u t n = λ c. n (t, (c, refl))

pub typed_element : (name : List ℕ) (c n k : ℕ) (u t : WgslType) (l : Layer) (e : WgslType) → layer_of u ≡ Some (l, e) → ConvertsInside u t → (q : Result WgslType Refusal) →
    IsMatrixOf name c n k t u q → IsTypedMatrixOf name c n k t u q
typed_element name c n k (within m f) t l e p (v, (Some w, h, r)) q made = (Some (within m t), (Some t, (h.0, refl), refl), shaped m made)
  where
    shaped : (m : Layer) → IsMatrixOf name c n k t (within m f) q → IsMatrixOf name c n k t (within m t) q
    shaped (array_of i) x = x
    shaped (vec_of i) x = x
    shaped (mat_of i j) x = x
typed_element name c n k (within m f) t l e p (v, (None, h, r)) q made = absurd (cc r)
typed_element name c n k u t l e p h q made = absurd (cc p)

pub typed_whole : (name : List ℕ) (c n k : ℕ) (u t : WgslType) → layer_of u ≡ None → ConvertsInside u t → (q : Result WgslType Refusal) →
    IsMatrixOf name c n k t t q → IsTypedMatrixOf name c n k t u q
typed_whole name c n k (within l e) t p h q made = absurd (cc p)
typed_whole name c n k u t p h q made = (Some t, (h.1.0, refl), made)

-- a scalar that doesn't convert
pub scalar_refused : (n : ℕ) (a t : WgslType) (s : Scalar) (e : Refusal) → a ≡ scalar s → ¬ ConvertsTo a t → e ≡ conversion a t →
    IsTypedVectorOfOne n a t (Err e)
scalar_refused n a t s e p q r =
    subst (λ x. IsTypedVectorOfOne n x t (Err e)) (sym p) (inr (subst (λ x. ¬ ConvertsTo x t) p q, ap Err (r ∙ ap (λ x. conversion x t) p)))

-- structs: as many arguments as members, and each converts
abbrev Filled : StructType → List «Type» → Result (Unit {0}) Refusal → Type 0
Filled s args r = IsFilled (struct_view s).name (struct_view s).members (map view args) r

name_of : (s : StructType) → (struct_view s).name ≡ string_bytes (out-StructType s).name
name_of s = cc (view-struct s)

members_in : (s : StructType) → (struct_view s).members ≡ members_view ((out-StructType s).members).items
members_in s = cc (view-struct s)

count_in : (s : StructType) → member_count (struct_view s).members ≡ length ((out-StructType s).members).items
count_in s = ap member_count (members_in s) ∙ count_of_members ((out-StructType s).members).items

pub wrong_number : (s : StructType) (args : List «Type») → length ((out-StructType s).members).items ≢ length args →
    ¬ (member_count (struct_view s).members ≡ length (map view args))
wrong_number s args n e = n (sym (count_in s) ∙ e ∙ length-map args view)

pub right_number : (s : StructType) (args : List «Type») → length ((out-StructType s).members).items ≡ length args →
    member_count (struct_view s).members ≡ length (map view args)
right_number s args e = count_in s ∙ e ∙ sym (length-map args view)

pub refused_number : (s : StructType) (args : List «Type») (e : Refusal) → length ((out-StructType s).members).items ≢ length args →
    e ≡ param_count (string_bytes (out-StructType s).name) (length ((out-StructType s).members).items) (length args) → Filled s args (Err e)
refused_number s args e n p = inr (
  wrong_number s args n,
  ap Err (p ∙ ap (λ x. param_count x (length ((out-StructType s).members).items) (length args)) (sym (name_of s))
      ∙ ap (λ k. param_count (struct_view s).name k (length args)) (sym (count_in s))
      ∙ ap (param_count (struct_view s).name (member_count (struct_view s).members)) (sym (length-map args view))),
)

pub not_filled_by_number : (s : StructType) (args : List «Type») → length ((out-StructType s).members).items ≢ length args → ¬ Filled s args (Ok tt)
not_filled_by_number s args n (inl h) = absurd (wrong_number s args n h.0)
not_filled_by_number s args n (inr h) = absurd (cc h.1)

pub refused_member : (s : StructType) (args : List «Type») (t a : WgslType) (e : Refusal) → length ((out-StructType s).members).items ≡ length args →
    IsFirstMisfit (members_view ((out-StructType s).members).items) (map view args) t a → e ≡ param_type t a → Filled s args (Err e)
refused_member s args t a e n h p =
    inl (right_number s args n, inr (t, a, subst (λ ms. IsFirstMisfit ms (map view args) t a) (sym (members_in s)) h, ap Err p))

pub not_filled_by_member : (s : StructType) (args : List «Type») (t a : WgslType) →
    IsFirstMisfit (members_view ((out-StructType s).members).items) (map view args) t a → ¬ Filled s args (Ok tt)
not_filled_by_member s args t a h (inr k) = absurd (cc k.1)
not_filled_by_member s args t a h (inl (n, inl fit)) =
    misfit_is_no_fit _ _ t a h (subst (λ ms. AllFit ms (map view args)) (members_in s) fit.0)
not_filled_by_member s args t a h (inl (n, inr m)) = absurd (cc m.3)

pub filled : (s : StructType) (args : List «Type») → length ((out-StructType s).members).items ≡ length args →
    AllFit (members_view ((out-StructType s).members).items) (map view args) → Filled s args (Ok tt)
filled s args n h = inl (right_number s args n, inl (subst (λ ms. AllFit ms (map view args)) (sym (members_in s)) h, refl))

-- the answer of the constructor with a name
pub built : (k : Option Constructor) (call : Signature) → k ≡ constructor_of call.name → (r : Result WgslType Refusal) →
    IsBuilt k call r → IsConstructorAnswer call r
unfolding IsConstructorAnswer
built k call e r h = subst (λ x. IsBuilt x call r) e h
