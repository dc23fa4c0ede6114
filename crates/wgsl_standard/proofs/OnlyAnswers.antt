-- Assignments and array constructors have exactly one answer.
use Rattle.std.proofs.Common.{◌≡◌, List, [], ◌∷◌, Some, None, Result, Ok, Err, length, map, refl, ap, ◌∙◌}
use Rattle.wgsl_standard.proofs.CommonForms.{AccessMode, BinaryOperator, WgslType, reference, IsLeftCommon, IsStandardAnswer, Operand, binary_overloads, an_answer, answer_once, Fits, Refusal}
use Rattle.wgsl_syntax.specs.declared.address.AccessMode.TheVariants.{ReadWrite}
use Rattle.wgsl_rules.proofs.conversion.Commons.{left_common_once, some_left_common}
use Rattle.wgsl_standard.proofs.NamedTables.{binary_unambiguous}
use Rattle.wgsl_standard.specs.forms.Array.{IsAfter, IsArrayOf, all_load, array_of, referred}
use Rattle.wgsl_standard.specs.forms.Assign.{IsAssignedBy, IsCompound, IsCompoundTo, compound, operator_operand, stored_operand}
use Rattle.wgsl_standard.specs.forms.OneAnswer.{HasOneAnswer, ArraysHaveOneAnswer, AssignmentsHaveOneAnswer}

abbrev Answer : Type 0
Answer = Result WgslType Refusal

the_answer : (a : Answer) → HasOneAnswer (λ r. r ≡ a)
the_answer a = (a, refl, λ s e. e)

-- an answer by the one value that a relation has
by_one : {A : Type 0} (P : A → Type 0) (f : A → Answer) (a : A) → P a → ((b : A) → P b → b ≡ a) → HasOneAnswer (λ r. (b : A) × P b × (r ≡ f b))
by_one P f a p one = (f a, (a, p, refl), λ s k. k.2 ∙ ap f (one k.0 k.1))

compounds : (o : BinaryOperator) (t : WgslType) (y : Operand) → HasOneAnswer (IsCompound o t y)
compounds o t y =
    let xs = operator_operand (stored_operand t) ∷ operator_operand y ∷ [] in
    let some = an_answer (binary_overloads o) xs (binary_unambiguous o) in
    by_one (IsStandardAnswer (binary_overloads o) xs) (compound o t y.of_type) some.0 some.1 (λ s g. answer_once (binary_overloads o) xs s some.0 g some.1)

compounds_to : (o : BinaryOperator) (t : WgslType) (a : AccessMode) (y : Operand) → HasOneAnswer (IsCompoundTo o t a y)
compounds_to o t ReadWrite y = compounds o t y
compounds_to o t a y = the_answer _

assigned_by : (o : BinaryOperator) (x : WgslType) (y : Operand) → HasOneAnswer (IsAssignedBy o x y)
assigned_by o (reference s t a) y = compounds_to o t a y
assigned_by o x y = the_answer _

pub assignments : AssignmentsHaveOneAnswer
assignments (Some o) x y = assigned_by o x y
assignments None x y = the_answer _

array_of_values : (xs : List WgslType) → HasOneAnswer (IsArrayOf xs)
array_of_values (x ∷ xs) =
    let ts = map referred (x ∷ xs) in
    let some = some_left_common ts in
    by_one (IsLeftCommon ts) (array_of (length (x ∷ xs))) some.0 some.1 (λ s g. left_common_once ts s some.0 g some.1)
array_of_values [] = the_answer _

after_loads : (loads : Fits) (xs : List WgslType) → HasOneAnswer (IsAfter loads (IsArrayOf xs))
after_loads (Ok u) xs = array_of_values xs
after_loads (Err e) xs = the_answer _

pub arrays : ArraysHaveOneAnswer
arrays xs = after_loads (all_load xs) xs
