-- A constructor's call has at most one answer.
use Rattle.std.proofs.Common.{◌≡◌, ℕ, ◌*◌, ◌⊎◌, List, [], ◌∷◌, Option, Some, None, Result, Ok, Err, All, codes, length, map, ok_or, inl, inr, sym, ap, subst, ◌∙◌}
use Rattle.wgsl_rules.proofs.Common.{WgslType, scalar, array, vec, mat, IsScalarOrVector, IsFloatScalar, inner_of, Parameter, Signature, ConvertsTo, Refusal, builtin, conversion, param_count, Receives, IsVecTemplate, IsMatTemplate, array_template}
use Rattle.wgsl_rules.specs.constructors.Steps.{Either, Then, ThenCommon, IsCounted, IsFirstStuck}
use Rattle.wgsl_rules.specs.constructors.Vectors.{BringsComponents, all_components, no_components, IsTypedVectorOfOne, IsTypedVectorOfSeveral, IsTypedVector, IsUntypedVectorOfOne, IsUntypedVectorOfSeveral, IsUntypedVector, IsVectorCall}
use Rattle.wgsl_rules.specs.constructors.Matrices.{IsMatrixOf, IsTypedMatrixOf, IsTypedMatrixOfOne, IsTypedMatrix, IsUntypedMatrixOf, IsUntypedMatrixOfOne, IsUntypedMatrix, IsMatrixCall, component_of, incompatible_matrix, no_columns}
use Rattle.wgsl_rules.specs.constructors.Constructors.{Constructor, makes_array, makes_vector, makes_matrix, IsTypedArray, IsArrayCall, IsBuilt, IsConstructorAnswer, constructor_of}
use Rattle.wgsl_rules.proofs.conversion.Commons.{left_common_once, receives_head, receives_tail}
use Rattle.wgsl_rules.proofs.conversion.Converted.{converted_inside_once}
use Rattle.wgsl_rules.proofs.templates.OneAnswer.{vec_template_once, mat_template_once}

abbrev Answer : Type 0
Answer = Result WgslType Refusal

-- no two answers are allowed
abbrev IsOnce : (Answer → Type 0) → Type 0
IsOnce Allows = (r s : Answer) → Allows r → Allows s → r ≡ s

-- checks, one after another

known : (x : Answer) → IsOnce (λ r. r ≡ x)
known x r s h k = h ∙ sym k

either_once : (P : Type 0) (Holding Failing : Answer → Type 0) → IsOnce Holding → IsOnce Failing → IsOnce (λ r. Either P (Holding r) (Failing r))
either_once P Holding Failing holding failing r s (inl h) (inl k) = holding r s h.1 k.1
either_once P Holding Failing holding failing r s (inl h) (inr k) = absurd (k.0 h.0)
either_once P Holding Failing holding failing r s (inr h) (inl k) = absurd (h.0 k.0)
either_once P Holding Failing holding failing r s (inr h) (inr k) = failing r s h.1 k.1

-- a check that decides between two answers
one_of_two : (P : Type 0) (x y : Answer) → IsOnce (λ r. Either P (r ≡ x) (r ≡ y))
one_of_two P x y = either_once P (λ r. r ≡ x) (λ r. r ≡ y) (known x) (known y)

then_once : (q : Answer) (made : WgslType → Answer → Type 0) → ((t : WgslType) → IsOnce (made t)) → IsOnce (Then q made)
then_once (Ok t) made once r s h k = once t r s h k
then_once (Err e) made once r s h k = h ∙ sym k

then_common_once : (ts : List WgslType) (message : List ℕ) (made : WgslType → Answer → Type 0) → ((t : WgslType) → IsOnce (made t)) → IsOnce (ThenCommon ts message made)
then_common_once ts message made once r s h k =
    then_once (ok_or k.0 (builtin message)) made once r s
    (subst (λ c. Then (ok_or c (builtin message)) made r) (left_common_once ts h.0 k.0 h.1 k.1) h.2) k.2

-- a template, and what follows it
then_template_once : (IsTemplate : Answer → Type 0) (made : WgslType → Answer → Type 0) → IsOnce IsTemplate → ((t : WgslType) → IsOnce (made t))
    → IsOnce (λ r. (q : Answer) × IsTemplate q × Then q made r)
then_template_once IsTemplate made template once r s h k =
    then_once k.0 made once r s (subst (λ q. Then q made r) (template h.0 k.0 h.1 k.1) h.2) k.2

counted_once : (name : List ℕ) (wanted number : ℕ) (t : WgslType) → IsOnce (IsCounted name wanted number t)
counted_once name wanted number t = one_of_two (wanted ≡ number) (Ok t) (Err (param_count name wanted number))

first_stuck_once : (t : WgslType) (us : List WgslType) (a b : WgslType) → IsFirstStuck t us a → IsFirstStuck t us b → a ≡ b
first_stuck_once t [] a b h k = absurd h
first_stuck_once t (u ∷ us) a b (inl h) (inl k) = h.1 ∙ sym k.1
first_stuck_once t (u ∷ us) a b (inl h) (inr k) = absurd (h.0 k.0)
first_stuck_once t (u ∷ us) a b (inr h) (inl k) = absurd (k.0 h.0)
first_stuck_once t (u ∷ us) a b (inr h) (inr k) = first_stuck_once t us a b h.1 k.1

none_stuck : (t : WgslType) (us : List WgslType) (a : WgslType) → Receives t us → IsFirstStuck t us a → ⊥
none_stuck t [] a g h = h
none_stuck t (u ∷ us) a g (inl h) = h.0 (receives_head t u us g)
none_stuck t (u ∷ us) a g (inr h) = none_stuck t us a (receives_tail t u us g) h.1

-- arrays

filled_once : (t : WgslType) (args : List WgslType) (x r s : Answer)
    → Receives t args × (r ≡ x) ⊎ ((b : WgslType) × IsFirstStuck t args b × (r ≡ Err (conversion b t)))
    → Receives t args × (s ≡ x) ⊎ ((b : WgslType) × IsFirstStuck t args b × (s ≡ Err (conversion b t))) → r ≡ s
filled_once t args x r s (inl h) (inl k) = h.1 ∙ sym k.1
filled_once t args x r s (inl h) (inr k) = absurd (none_stuck t args k.0 h.0 k.1)
filled_once t args x r s (inr h) (inl k) = absurd (none_stuck t args h.0 k.0 h.1)
filled_once t args x r s (inr h) (inr k) = h.2 ∙ (ap (λ b. Err (conversion b t)) (first_stuck_once t args h.0 k.0 h.1 k.1) ∙ sym k.2)

typed_array_once : (args : List WgslType) (t : WgslType) → IsOnce (IsTypedArray args t)
typed_array_once (a ∷ args) (array (Some n) t) r s h k = filled_once t (a ∷ args) (Ok (array (Some n) t)) r s h k
typed_array_once _ t r s h k = h ∙ sym k

array_once : (template : Option (List Parameter)) (args : List WgslType) → IsOnce (IsArrayCall template args)
array_once (Some ps) args = then_once (array_template ps) (IsTypedArray args) (typed_array_once args)
array_once None args =
    then_common_once args (codes "array elements are incompatible") (λ c q. q ≡ Ok (array (Some (length args)) c))
    (λ c. known (Ok (array (Some (length args)) c)))

-- vectors

typed_vector_of_one_once : (n : ℕ) (a t : WgslType) → IsOnce (IsTypedVectorOfOne n a t)
typed_vector_of_one_once n (scalar s) t = one_of_two (ConvertsTo (scalar s) t) (Ok (vec n t)) (Err (conversion (scalar s) t))
typed_vector_of_one_once n (vec m e) t = one_of_two (m ≡ n) (Ok (vec n t)) (Err (conversion (vec m e) (vec n t)))
typed_vector_of_one_once n a t = known (Err (conversion a t))

typed_vector_of_several_once : (name : List ℕ) (n : ℕ) (args : List WgslType) (t : WgslType) → IsOnce (IsTypedVectorOfSeveral name n args t)
typed_vector_of_several_once name n args t =
    let wrong = param_count name n (length args) in
    either_once (All (BringsComponents t) args) (λ r. Either (all_components args ≡ n) (r ≡ Ok (vec n t)) (r ≡ Err wrong)) (λ r. r ≡ Err no_components)
    (one_of_two (all_components args ≡ n) (Ok (vec n t)) (Err wrong)) (known (Err no_components))

typed_vector_once : (name : List ℕ) (n : ℕ) (args : List WgslType) (t : WgslType) → IsOnce (IsTypedVector name n args t)
typed_vector_once name n [] t = known (Ok (vec n t))
typed_vector_once name n (a ∷ []) t = typed_vector_of_one_once n a t
typed_vector_once name n (a ∷ b ∷ args) t = typed_vector_of_several_once name n (a ∷ b ∷ args) t

untyped_vector_of_one_once : (n : ℕ) (a : WgslType) → IsOnce (IsUntypedVectorOfOne n a)
untyped_vector_of_one_once n (vec m e) r q h k = one_of_two (m ≡ n) (Ok (vec n e)) (Err (conversion (vec m e) (vec n e))) r q h k
untyped_vector_of_one_once n _ r q h k = h ∙ sym k

untyped_vector_of_several_once : (name : List ℕ) (n : ℕ) (args : List WgslType) → IsOnce (IsUntypedVectorOfSeveral name n args)
untyped_vector_of_several_once name n args =
    let wrong = param_count name n (length args) in
    let message = codes "vector components are incompatible" in
    let made : WgslType → Answer → Type 0 = λ c q. q ≡ Ok (vec n c) in
    either_once (All IsScalarOrVector args)
    (λ r. Either (all_components args ≡ n) (ThenCommon (map inner_of args) message made r) (r ≡ Err wrong))
    (λ r. r ≡ Err no_components)
    (either_once (all_components args ≡ n) (ThenCommon (map inner_of args) message made) (λ r. r ≡ Err wrong)
    (then_common_once (map inner_of args) message made (λ c. known (Ok (vec n c)))) (known (Err wrong))) (known (Err no_components))

untyped_vector_once : (name : List ℕ) (n : ℕ) (args : List WgslType) → IsOnce (IsUntypedVector name n args)
untyped_vector_once name n [] r s h k = h ∙ sym k
untyped_vector_once name n (a ∷ []) r s h k = untyped_vector_of_one_once n a r s h k
untyped_vector_once name n (a ∷ b ∷ args) r s h k = untyped_vector_of_several_once name n (a ∷ b ∷ args) r s h k

vector_once : (name : List ℕ) (n : ℕ) (template : Option (List Parameter)) (args : List WgslType) → IsOnce (IsVectorCall name n template args)
vector_once name n (Some ps) args =
    then_template_once (IsVecTemplate ps) (IsTypedVector name n args) (vec_template_once ps) (typed_vector_once name n args)
vector_once name n None args = untyped_vector_once name n args

-- matrices

matrix_of_once : (name : List ℕ) (c r number : ℕ) (t u : WgslType) → IsOnce (IsMatrixOf name c r number t u)
matrix_of_once name c r number t (vec n e) p q h k = counted_once name c number (mat c r t) p q h k
matrix_of_once name c r number t (scalar s) p q h k = counted_once name (c * r) number (mat c r t) p q h k
matrix_of_once name c r number t u p q h k = h ∙ sym k

typed_matrix_of_once : (name : List ℕ) (c r number : ℕ) (t u : WgslType) → IsOnce (IsTypedMatrixOf name c r number t u)
typed_matrix_of_once name c r number t u p q h k =
    let made = IsMatrixOf name c r number t in
    let failed = conversion (inner_of u) t in
    then_once (ok_or k.0 failed) made (matrix_of_once name c r number t) p q
    (subst (λ v. Then (ok_or v failed) made p) (converted_inside_once u t h.0 k.0 h.1 k.1) h.2) k.2

typed_matrix_of_one_once : (name : List ℕ) (c r : ℕ) (a t : WgslType) → IsOnce (IsTypedMatrixOfOne name c r a t)
typed_matrix_of_one_once name c r (mat d s e) t = one_of_two ((d ≡ c) × (s ≡ r)) (Ok (mat c r t)) (Err (conversion (mat d s e) (mat c r t)))
typed_matrix_of_one_once name c r a t =
    then_common_once (a ∷ []) incompatible_matrix (IsTypedMatrixOf name c r 1 t) (typed_matrix_of_once name c r 1 t)

typed_matrix_once : (name : List ℕ) (c r : ℕ) (args : List WgslType) (t : WgslType) → IsOnce (IsTypedMatrix name c r args t)
typed_matrix_once name c r [] t = known (Ok (mat c r t))
typed_matrix_once name c r (a ∷ []) t = typed_matrix_of_one_once name c r a t
typed_matrix_once name c r (a ∷ b ∷ args) t =
    let number = length (a ∷ b ∷ args) in
    then_common_once (a ∷ b ∷ args) incompatible_matrix (IsTypedMatrixOf name c r number t) (typed_matrix_of_once name c r number t)

untyped_matrix_of_once : (name : List ℕ) (c r number : ℕ) (u : WgslType) → IsOnce (IsUntypedMatrixOf name c r number u)
untyped_matrix_of_once name c r number u =
    let t = component_of (inner_of u) in
    either_once (IsFloatScalar t) (IsMatrixOf name c r number t u) (λ q. q ≡ Err no_columns) (matrix_of_once name c r number t u) (known (Err no_columns))

untyped_matrix_of_one_once : (name : List ℕ) (c r : ℕ) (a : WgslType) → IsOnce (IsUntypedMatrixOfOne name c r a)
untyped_matrix_of_one_once name c r (mat d s e) = one_of_two ((d ≡ c) × (s ≡ r)) (Ok (mat d s e)) (Err (conversion (mat d s e) (mat c r e)))
untyped_matrix_of_one_once name c r a =
    then_common_once (a ∷ []) incompatible_matrix (IsUntypedMatrixOf name c r 1) (untyped_matrix_of_once name c r 1)

untyped_matrix_of_several_once : (name : List ℕ) (c r : ℕ) (args : List WgslType)
    → IsOnce (ThenCommon args incompatible_matrix (IsUntypedMatrixOf name c r (length args)))
untyped_matrix_of_several_once name c r args =
    then_common_once args incompatible_matrix (IsUntypedMatrixOf name c r (length args)) (untyped_matrix_of_once name c r (length args))

untyped_matrix_once : (name : List ℕ) (c r : ℕ) (args : List WgslType) → IsOnce (IsUntypedMatrix name c r args)
untyped_matrix_once name c r [] = untyped_matrix_of_several_once name c r []
untyped_matrix_once name c r (a ∷ []) = untyped_matrix_of_one_once name c r a
untyped_matrix_once name c r (a ∷ b ∷ args) = untyped_matrix_of_several_once name c r (a ∷ b ∷ args)

matrix_once : (name : List ℕ) (c r : ℕ) (template : Option (List Parameter)) (args : List WgslType) → IsOnce (IsMatrixCall name c r template args)
matrix_once name c r (Some ps) args =
    then_template_once (IsMatTemplate ps) (IsTypedMatrix name c r args) (mat_template_once ps) (typed_matrix_once name c r args)
matrix_once name c r None args = untyped_matrix_once name c r args

-- every constructor

built_once : (c : Option Constructor) (call : Signature) → IsOnce (IsBuilt c call)
built_once (Some makes_array) call r s h k = array_once call.template call.arguments r s h k
built_once (Some (makes_vector n)) call r s h k = vector_once call.name n call.template call.arguments r s h k
built_once (Some (makes_matrix c n)) call r s h k = matrix_once call.name c n call.template call.arguments r s h k
built_once _ call r s h k = h ∙ sym k

pub constructor_answer_once : (call : Signature) (r s : Result WgslType Refusal) → IsConstructorAnswer call r → IsConstructorAnswer call s → r ≡ s
unfolding IsConstructorAnswer
constructor_answer_once call = built_once (constructor_of call.name) call
