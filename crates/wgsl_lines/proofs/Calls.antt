-- What a constructor makes and what a built-in function returns, or the refusal of the call.
use Rattle.wgsl_lines.proofs.Common.{◌≡◌, ℕ, ◌*◌, ◌⊎◌, List, [], ◌∷◌, Option, Some, None, Result, Ok, Err, codes, length, map, ok_or, refl, inl, inr, ℕ_discrete}
use Rattle.wgsl_lines.proofs.Common.{AbstractInt, WgslType, scalar, array, vec, mat, IsScalar, IsScalarOrVector, IsFloatScalar, inner_of, Parameter, Signature}
use Rattle.wgsl_lines.proofs.Common.{of_type, IsAbstract, Refusal, builtin, conversion, param_count, signature, template_args, Receives, IsTemplateOf}
use Rattle.wgsl_lines.proofs.Common.{IsVecTemplate, IsMatTemplate, array_template, some_left_common, receives_nil, receives_cons, dec_converts, both, option_map}
use Rattle.wgsl_lines.proofs.Common.{option_and_then, Shape, dimensions, vec_of, within, IsNumericOrVector, result_struct, concretized, is_abstract}
use Rattle.wgsl_lines.proofs.Common.{IsBitcastTemplate, some_common}
use Rattle.wgsl_rules.specs.constructors.Steps.{Either, Then, ThenCommon, IsCounted, IsFirstStuck}
use Rattle.wgsl_rules.specs.constructors.Vectors.{BringsComponents, all_components, no_components, IsTypedVectorOfOne, IsTypedVectorOfSeveral, IsTypedVector, IsUntypedVectorOfOne, IsUntypedVectorOfSeveral, IsUntypedVector, IsVectorCall}
use Rattle.wgsl_rules.specs.constructors.Matrices.{IsMatrixOf, IsTypedMatrixOf, IsTypedMatrixOfOne, IsTypedMatrix, IsUntypedMatrixOf, IsUntypedMatrixOfOne, IsUntypedMatrix, IsMatrixCall, component_of, incompatible_matrix, no_columns}
use Rattle.wgsl_rules.specs.constructors.Constructors.{Constructor, makes_array, makes_scalar, makes_vector, makes_matrix, IsTypedArray, IsArrayCall, IsBuilt, IsConstructorAnswer, constructor_of, scalar_call}
use Rattle.wgsl_rules.proofs.conversion.Converted.{what_converted_inside}
use Rattle.wgsl_lines.proofs.Shapes.{dec_abstract, dec_all, dec_float_scalar, dec_not, dec_scalar, dec_scalar_or_vector, all_three, dec_numeric_or_vector, dec_fraction, dec_is}
use Rattle.std.specs.Prelude.{IsSome}
use Rattle.std.proofs.Math.Bool.{Bool-discrete}
use Rattle.wgsl_syntax.specs.declared.call.Condition.{Condition}
use Rattle.wgsl_syntax.specs.declared.call.Condition.TheVariants.{EqualLengths, SameAbstractness}
use Rattle.wgsl_syntax.specs.declared.call.ReturnType.{ReturnType}
use Rattle.wgsl_syntax.specs.declared.call.ReturnType.TheVariants.{Of, Concrete, AsLong, InVector, Transposed, TextureSize, ResultOf, ExchangeResult, RayIntersection, HitPositions, NoValue, ByTemplate}
use Rattle.wgsl_syntax.specs.declared.call.Row.{Row}
use Rattle.wgsl_syntax.specs.declared.call.Row.TheVariants.{Takes, TakesAtLeast, TakesWhere, TakesWithTemplate}
use Rattle.wgsl_syntax.specs.declared.call.Source.{Source}
use Rattle.wgsl_syntax.specs.declared.call.Source.TheVariants.{Argument, Inner, InnerOfInner, Common, InnerOfCommon, CommonOfThree, CommonOfInner, The, SampledAs, Channel}
use Rattle.wgsl_syntax.specs.declared.result_struct.ResultFunction.{ResultFunction}
use Rattle.wgsl_rules.specs.calls.Answers.{IsAnswerOf, IsCallAnswer}
use Rattle.wgsl_rules.specs.calls.ResultTypes.{exchange_struct, ray_intersection_struct, hit_positions_type, size_type, transposed_of}
use Rattle.wgsl_rules.specs.calls.Rows.{AllAre, BeginAs, Fits, HaveEqualLengths, Holds, IsCommonOf, IsFromTemplate, IsResultFor, IsReturnType, IsSource, channel_in, first, given, return_type_of, sampled_in, second, shapes_of, texture_in, third, vector_like}
use Rattle.wgsl_rules.specs.calls.Table.{call_table, rows_named}

abbrev Answer : Type 0
Answer = Result WgslType Refusal

-- some answer is allowed
abbrev Given : (Answer → Type 0) → Type 0
Given Allows = (r : Answer) × Allows r

-- checks, one after another

known : (x : Answer) → Given (λ r. r ≡ x)
known x = (x, refl)

either : {P : Type 0} {Holding Failing : Answer → Type 0} → Dec P → Given Holding → Given Failing → Given (λ r. Either P (Holding r) (Failing r))
either (yes p) h f = (h.0, inl (p, h.1))
either (no n) h f = (f.0, inr (n, f.1))

-- a check that decides between two answers
one_of_two : {P : Type 0} (x y : Answer) → Dec P → Given (λ r. Either P (r ≡ x) (r ≡ y))
one_of_two x y dec = either dec (known x) (known y)

next : (q : Answer) (made : WgslType → Answer → Type 0) → ((t : WgslType) → Given (made t)) → Given (Then q made)
next (Ok t) made some = some t
next (Err e) made some = (Err e, refl)

next_common : (ts : List WgslType) (message : List ℕ) (made : WgslType → Answer → Type 0) → ((t : WgslType) → Given (made t)) → Given (ThenCommon ts message made)
next_common ts message made some =
    let c = some_left_common ts in
    let r = next (ok_or c.0 (builtin message)) made some in
    (r.0, (c.0, c.1, r.1))

-- a template, and what follows it
next_template : (IsTemplate : Answer → Type 0) (made : WgslType → Answer → Type 0) → Given IsTemplate → ((t : WgslType) → Given (made t))
    → Given (λ r. (q : Answer) × IsTemplate q × Then q made r)
next_template IsTemplate made q some = let r = next q.0 made some in (r.0, (q.0, q.1, r.1))

pub a_template : (P : WgslType → Type 0) → ((t : WgslType) → Dec (P t)) → (name message : List ℕ) (ps : List Parameter) → Given (IsTemplateOf P name message ps)
a_template P dec name message (of_type t ∷ []) = elim (dec t) [ yes p ↦ (Ok t, (p, refl)) | no n ↦ (Err (builtin message), (n, refl)) ]
a_template P dec name message ps = (Err (template_args name), refl)

counted : (name : List ℕ) (wanted number : ℕ) (t : WgslType) → Given (IsCounted name wanted number t)
counted name wanted number t = one_of_two (Ok t) (Err (param_count name wanted number)) (ℕ_discrete wanted number)

-- arrays

all_or_stuck : (t : WgslType) (us : List WgslType) → Receives t us ⊎ ((b : WgslType) × IsFirstStuck t us b)
all_or_stuck t [] = inl (receives_nil t)
all_or_stuck t (u ∷ us) = elim (dec_converts u t) [
  | no n ↦ inr (u, inl (n, refl))
  | yes c ↦ elim (all_or_stuck t us) [ inl h ↦ inl (receives_cons t u us c h) | inr b ↦ inr (b.0, inr (c, b.1)) ]
]

typed_array : (args : List WgslType) (t : WgslType) → Given (IsTypedArray args t)
typed_array [] t = known (Ok t)
typed_array (a ∷ args) (array (Some n) t) = elim (all_or_stuck t (a ∷ args)) [
  | inl h ↦ (Ok (array (Some n) t), inl (h, refl))
  | inr b ↦ (Err (conversion b.0 t), inr (b.0, b.1, refl))
]
typed_array (a ∷ args) t = known (Err (template_args (codes "array")))

an_array : (template : Option (List Parameter)) (args : List WgslType) → Given (IsArrayCall template args)
an_array (Some ps) args = next (array_template ps) (IsTypedArray args) (typed_array args)
an_array None args = next_common args (codes "array elements are incompatible") (λ c q. q ≡ Ok (array (Some (length args)) c)) (λ c. known (Ok (array (Some (length args)) c)))

-- vectors

dec_components : (t a : WgslType) → Dec (BringsComponents t a)
dec_components t (scalar s) = dec_converts (scalar s) t
dec_components t (vec n e) = dec_converts e t
dec_components t a = no (λ h. h)

typed_vector_of_one : (n : ℕ) (a t : WgslType) → Given (IsTypedVectorOfOne n a t)
typed_vector_of_one n (scalar s) t = one_of_two (Ok (vec n t)) (Err (conversion (scalar s) t)) (dec_converts (scalar s) t)
typed_vector_of_one n (vec m e) t = one_of_two (Ok (vec n t)) (Err (conversion (vec m e) (vec n t))) (ℕ_discrete m n)
typed_vector_of_one n a t = known (Err (conversion a t))

typed_vector_of_several : (name : List ℕ) (n : ℕ) (args : List WgslType) (t : WgslType) → Given (IsTypedVectorOfSeveral name n args t)
typed_vector_of_several name n args t =
    either (dec_all (BringsComponents t) (dec_components t) args)
    (one_of_two (Ok (vec n t)) (Err (param_count name n (length args))) (ℕ_discrete (all_components args) n)) (known (Err no_components))

typed_vector : (name : List ℕ) (n : ℕ) (args : List WgslType) (t : WgslType) → Given (IsTypedVector name n args t)
typed_vector name n [] t = known (Ok (vec n t))
typed_vector name n (a ∷ []) t = typed_vector_of_one n a t
typed_vector name n (a ∷ b ∷ args) t = typed_vector_of_several name n (a ∷ b ∷ args) t

untyped_vector_of_one : (n : ℕ) (a : WgslType) → Given (IsUntypedVectorOfOne n a)
untyped_vector_of_one n (scalar s) = known (Ok (vec n (scalar s)))
untyped_vector_of_one n (vec m e) = one_of_two (Ok (vec n e)) (Err (conversion (vec m e) (vec n e))) (ℕ_discrete m n)
untyped_vector_of_one n a = known (Err no_components)

untyped_vector_of_several : (name : List ℕ) (n : ℕ) (args : List WgslType) → Given (IsUntypedVectorOfSeveral name n args)
untyped_vector_of_several name n args =
    either (dec_all IsScalarOrVector dec_scalar_or_vector args)
    (either (ℕ_discrete (all_components args) n)
    (next_common (map inner_of args) (codes "vector components are incompatible") (λ c q. q ≡ Ok (vec n c)) (λ c. known (Ok (vec n c))))
    (known (Err (param_count name n (length args))))) (known (Err no_components))

untyped_vector : (name : List ℕ) (n : ℕ) (args : List WgslType) → Given (IsUntypedVector name n args)
untyped_vector name n [] = known (Ok (vec n (scalar AbstractInt)))
untyped_vector name n (a ∷ []) = untyped_vector_of_one n a
untyped_vector name n (a ∷ b ∷ args) = untyped_vector_of_several name n (a ∷ b ∷ args)

vector_template : (ps : List Parameter) → Given (IsVecTemplate ps)
vector_template = a_template (λ t. IsScalar t × ¬ IsAbstract t) (λ t. both (dec_scalar t) (dec_not (dec_abstract t))) (codes "vector") (codes "vector template type must be a scalar")

a_vector : (name : List ℕ) (n : ℕ) (template : Option (List Parameter)) (args : List WgslType) → Given (IsVectorCall name n template args)
a_vector name n (Some ps) args = next_template (IsVecTemplate ps) (IsTypedVector name n args) (vector_template ps) (typed_vector name n args)
a_vector name n None args = untyped_vector name n args

-- matrices

matrix_of : (name : List ℕ) (c r number : ℕ) (t u : WgslType) → Given (IsMatrixOf name c r number t u)
matrix_of name c r number t (vec n e) = counted name c number (mat c r t)
matrix_of name c r number t (scalar s) = counted name (c * r) number (mat c r t)
matrix_of name c r number t u = known (Err no_columns)

typed_matrix_of : (name : List ℕ) (c r number : ℕ) (t u : WgslType) → Given (IsTypedMatrixOf name c r number t u)
typed_matrix_of name c r number t u =
    let v = what_converted_inside u t in
    let q = next (ok_or v.0 (conversion (inner_of u) t)) (IsMatrixOf name c r number t) (matrix_of name c r number t) in
    (q.0, (v.0, v.1, q.1))

typed_matrix_of_one : (name : List ℕ) (c r : ℕ) (a t : WgslType) → Given (IsTypedMatrixOfOne name c r a t)
typed_matrix_of_one name c r (mat d s e) t = one_of_two (Ok (mat c r t)) (Err (conversion (mat d s e) (mat c r t))) (both (ℕ_discrete d c) (ℕ_discrete s r))
typed_matrix_of_one name c r a t = next_common (a ∷ []) incompatible_matrix (IsTypedMatrixOf name c r 1 t) (typed_matrix_of name c r 1 t)

typed_matrix : (name : List ℕ) (c r : ℕ) (args : List WgslType) (t : WgslType) → Given (IsTypedMatrix name c r args t)
typed_matrix name c r [] t = known (Ok (mat c r t))
typed_matrix name c r (a ∷ []) t = typed_matrix_of_one name c r a t
typed_matrix name c r (a ∷ b ∷ args) t =
    let number = length (a ∷ b ∷ args) in
    next_common (a ∷ b ∷ args) incompatible_matrix (IsTypedMatrixOf name c r number t) (typed_matrix_of name c r number t)

untyped_matrix_of : (name : List ℕ) (c r number : ℕ) (u : WgslType) → Given (IsUntypedMatrixOf name c r number u)
untyped_matrix_of name c r number u =
    let t = component_of (inner_of u) in
    either (dec_float_scalar t) (matrix_of name c r number t u) (known (Err no_columns))

untyped_matrix_of_one : (name : List ℕ) (c r : ℕ) (a : WgslType) → Given (IsUntypedMatrixOfOne name c r a)
untyped_matrix_of_one name c r (mat d s e) = one_of_two (Ok (mat d s e)) (Err (conversion (mat d s e) (mat c r e))) (both (ℕ_discrete d c) (ℕ_discrete s r))
untyped_matrix_of_one name c r a = next_common (a ∷ []) incompatible_matrix (IsUntypedMatrixOf name c r 1) (untyped_matrix_of name c r 1)

untyped_matrix_of_several : (name : List ℕ) (c r : ℕ) (args : List WgslType) → Given (ThenCommon args incompatible_matrix (IsUntypedMatrixOf name c r (length args)))
untyped_matrix_of_several name c r args = next_common args incompatible_matrix (IsUntypedMatrixOf name c r (length args)) (untyped_matrix_of name c r (length args))

untyped_matrix : (name : List ℕ) (c r : ℕ) (args : List WgslType) → Given (IsUntypedMatrix name c r args)
untyped_matrix name c r [] = untyped_matrix_of_several name c r []
untyped_matrix name c r (a ∷ []) = untyped_matrix_of_one name c r a
untyped_matrix name c r (a ∷ b ∷ args) = untyped_matrix_of_several name c r (a ∷ b ∷ args)

matrix_template : (ps : List Parameter) → Given (IsMatTemplate ps)
matrix_template = a_template IsFloatScalar dec_float_scalar (codes "matrix") (codes "matrix template type must be f32 or f16")

a_matrix : (name : List ℕ) (c r : ℕ) (template : Option (List Parameter)) (args : List WgslType) → Given (IsMatrixCall name c r template args)
a_matrix name c r (Some ps) args = next_template (IsMatTemplate ps) (IsTypedMatrix name c r args) (matrix_template ps) (typed_matrix name c r args)
a_matrix name c r None args = untyped_matrix name c r args

-- every constructor

built : (c : Option Constructor) (call : Signature) → Given (IsBuilt c call)
built (Some makes_array) call = an_array call.template call.arguments
built (Some (makes_scalar s)) call = known (scalar_call s call.template call.arguments (signature call))
built (Some (makes_vector n)) call = a_vector call.name n call.template call.arguments
built (Some (makes_matrix c n)) call = a_matrix call.name c n call.template call.arguments
built None call = known (Err (signature call))

pub a_constructor : (call : Signature) → (r : Result WgslType Refusal) × IsConstructorAnswer call r
unfolding IsConstructorAnswer
a_constructor call = built (constructor_of call.name) call

-- Whether a row takes a call

dec_all_are : (ss : List Shape) (ts : List WgslType) → Dec (AllAre ss ts)
dec_all_are [] [] = yes tt
dec_all_are (s ∷ ss) (t ∷ ts) = both (dec_is s t) (dec_all_are ss ts)
dec_all_are ss ts = no (λ h. h)

dec_begin_as : (ss : List Shape) (ts : List WgslType) → Dec (BeginAs ss ts)
dec_begin_as [] ts = yes tt
dec_begin_as (s ∷ ss) (t ∷ ts) = both (dec_is s t) (dec_begin_as ss ts)
dec_begin_as (s ∷ ss) [] = no (λ h. h)

dec_equal_lengths : (t u : WgslType) → Dec (HaveEqualLengths t u)
dec_equal_lengths (within (vec_of n) t) (within (vec_of m) u) = ℕ_discrete n m
dec_equal_lengths t u = no (λ h. h)

dec_holds : (k : Condition) (ts : List WgslType) → Dec (Holds k ts)
dec_holds EqualLengths (t ∷ u ∷ ts) = dec_equal_lengths t u
dec_holds SameAbstractness (t ∷ u ∷ ts) = Bool-discrete (is_abstract t) (is_abstract u)
dec_holds k ts = no (λ h. h)

dec_no_template : (template : Option (List Parameter)) → Dec (template ≡ None)
dec_no_template None = yes refl
dec_no_template (Some ps) = no (λ e. absurd (cc e))

dec_template : (template : Option (List Parameter)) → Dec (IsSome template)
dec_template None = no (λ h. absurd (cc h))
dec_template (Some ps) = yes refl

dec_takes : (r : Row) (c : Signature) → Dec (Fits r c)
dec_takes (Takes ss o) c = both (dec_no_template c.template) (dec_all_are (shapes_of ss) c.arguments)
dec_takes (TakesAtLeast ss o) c = both (dec_no_template c.template) (dec_begin_as (shapes_of ss) c.arguments)
dec_takes (TakesWhere ss k o) c = all_three (dec_no_template c.template) (dec_all_are (shapes_of ss) c.arguments) (dec_holds k c.arguments)
dec_takes (TakesWithTemplate ss o) c = both (dec_template c.template) (dec_all_are (shapes_of ss) c.arguments)

-- What a row returns

common_of : (t u : Option WgslType) → (c : Option WgslType) × IsCommonOf t u c
common_of (Some t) (Some u) = some_common t u
common_of (Some t) None = (None, refl)
common_of None u = (None, refl)

-- the common type of two types and then of a third
common_of_three : (t u v : Option WgslType) → (x : Option WgslType) × ((c : Option WgslType) × IsCommonOf t u c × IsCommonOf c v x)
common_of_three t u v = let c = common_of t u in let x = common_of c.0 v in (x.0, (c.0, c.1, x.1))

a_source : (p : Source) (ts : List WgslType) → (t : Option WgslType) × IsSource p ts t
a_source Argument ts = (first ts, refl)
a_source Inner ts = (option_map inner_of (first ts), refl)
a_source InnerOfInner ts = (option_map inner_of (option_map inner_of (first ts)), refl)
a_source Common ts = common_of (first ts) (second ts)
a_source InnerOfCommon ts = let c = common_of (first ts) (second ts) in (option_map inner_of c.0, (c.0, c.1, refl))
a_source CommonOfThree ts = common_of_three (first ts) (second ts) (third ts)
a_source CommonOfInner ts = common_of_three (option_map inner_of (first ts)) (option_map inner_of (second ts)) (third ts)
a_source (The s) ts = (Some (scalar s), refl)
a_source SampledAs ts = (option_and_then sampled_in (second ts), refl)
a_source Channel ts = (option_and_then channel_in (first ts), refl)

a_result : (f : ResultFunction) (t : Option WgslType) → (u : Option WgslType) × IsResultFor f t u
a_result f None = (None, refl)
a_result f (Some t) = elim (dec_fraction t) [
  | yes h ↦ (Some (result_struct f h.0 h.1), (h.0, h.1, h.2, refl))
  | no n ↦ (None, λ s p e. n (s, p, e))
]

from_template : (c : Signature) (template : Option (List Parameter)) → (a : Result (Option WgslType) Refusal) × IsFromTemplate c template a
from_template c (Some ps) =
    let r = a_template IsNumericOrVector dec_numeric_or_vector (codes "bitcast") (codes "bitcast template type must be a numeric scalar or numeric vector") ps in
    answer r.0 r.1
  where
    answer : (r : Result WgslType Refusal) → IsBitcastTemplate ps r → (a : Result (Option WgslType) Refusal) × IsFromTemplate c (Some ps) a
    answer (Ok t) h = (Ok (Some t), h)
    answer (Err e) h = (Err e, h)
from_template c None = (Err (signature c), refl)

a_return_type : (o : ReturnType) (c : Signature) → (a : Result (Option WgslType) Refusal) × IsReturnType o c a
a_return_type (Of p) c = let t = a_source p c.arguments in (given c t.0, (t.0, t.1, refl))
a_return_type (Concrete p) c = let t = a_source p c.arguments in (given c (option_map concretized t.0), (t.0, t.1, refl))
a_return_type (AsLong p) c =
    let t = a_source p c.arguments in
    (given c (option_and_then (λ f. option_and_then (vector_like f) t.0) (first c.arguments)), (t.0, t.1, refl))
a_return_type (InVector n p) c = let t = a_source p c.arguments in (given c (option_map (vec n) t.0), (t.0, t.1, refl))
a_return_type Transposed c = (given c (option_and_then transposed_of (first c.arguments)), refl)
a_return_type TextureSize c = (given c (option_map (λ x. size_type (dimensions x)) (option_and_then texture_in (first c.arguments))), refl)
a_return_type (ResultOf f) c = let t = a_result f (first c.arguments) in (given c t.0, (t.0, t.1, refl))
a_return_type ExchangeResult c = (given c (option_map exchange_struct (option_map inner_of (option_map inner_of (first c.arguments)))), refl)
a_return_type RayIntersection c = (given c (Some ray_intersection_struct), refl)
a_return_type HitPositions c = (given c (Some hit_positions_type), refl)
a_return_type NoValue c = (Ok None, refl)
a_return_type ByTemplate c = from_template c c.template

-- The answer

an_answer : (rs : List Row) (c : Signature) → (a : Result (Option WgslType) Refusal) × IsAnswerOf rs c a
an_answer [] c = (Err (signature c), refl)
an_answer (r ∷ rs) c = elim (dec_takes r c) [
  | yes fits ↦ let a = a_return_type (return_type_of r) c in (a.0, inl (fits, a.1))
  | no n ↦ let a = an_answer rs c in (a.0, inr (n, a.1))
]

pub a_call : (c : Signature) → (a : Result (Option WgslType) Refusal) × IsCallAnswer c a
unfolding IsCallAnswer
a_call c = an_answer (rows_named c.name call_table) c
