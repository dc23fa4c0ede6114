-- The result of an operator is a scalar, a vector or a matrix.
use Rattle.std.proofs.Common.{◌≡◌, ℕ, List, [], ◌∷◌, Option, Some, Bool, true, false, refl, sym, subst, zero, suc, option_map, slice_get, slice_index_or, ◌&&◌}
use Rattle.std.proofs.lemmas.Option.{get_or_from_slice_get}
use Rattle.wgsl_standard.proofs.CommonForms.{BinaryOperator, Scalar, WgslType, IsStandardAnswer, Operand, IsChosen, binary_overloads, answer_at}
use Rattle.wgsl_syntax.specs.declared.operator.BinaryOperator.TheVariants as operators
use Rattle.wgsl_syntax.specs.declared.overload.Dimensions.{Dimensions}
use Rattle.wgsl_syntax.specs.declared.overload.Substitution.{Substitution}
use Rattle.wgsl_syntax.specs.declared.overload.Overload.{Overload}
use Rattle.wgsl_syntax.specs.declared.overload.Pattern.TheVariants as patterns
use Rattle.wgsl_syntax.specs.declared.overload.Returns.{Returns}
use Rattle.wgsl_syntax.specs.declared.overload.Returns.TheVariants.{Gives}
use Rattle.wgsl_rules.specs.standard.Overloads.{result_of, result_in, type_with}
use Rattle.wgsl_standard.specs.forms.internal.Values.{result_value, value_returned}

abbrev is_value : Returns → Bool
is_value (Gives (patterns.Value s e)) = true
is_value r = false

abbrev all_values : List Overload → Bool
all_values [] = true
all_values (o ∷ os) = is_value (result_of o) && all_values os

-- every overload of a binary operator gives one
binary_values : (o : BinaryOperator) → all_values (binary_overloads o) ≡ true
binary_values operators.ShortCircuitOr = refl
binary_values o = refl

and_both : (a b : Bool) → (a && b) ≡ true → (a ≡ true) × (b ≡ true)
and_both true b h = (refl, h)
and_both false b h = absurd (cc h)

value_at : (os : List Overload) → all_values os ≡ true → (k : ℕ) (o : Overload) → slice_get os k ≡ Some o → is_value (result_of o) ≡ true
value_at [] h k o e = absurd (cc e)
value_at (p ∷ os) h zero o e =
    let q : p ≡ o = cc e in subst (λ o. is_value (result_of o) ≡ true) q (and_both (is_value (result_of p)) (all_values os) h).0
value_at (p ∷ os) h (suc k) o e = value_at os (and_both (is_value (result_of p)) (all_values os) h).1 k o e

abbrev pub as_type : Option (Dimensions × Scalar) → Option (Option WgslType)
as_type r = option_map (λ v. Some (type_with v.0 v.1)) r

value_of_returns : (i : Substitution) (us : List WgslType) (r : Returns) → is_value r ≡ true → Some (result_in i us r) ≡ as_type (value_returned i r)
value_of_returns i us (Gives (patterns.Value s e)) h = refl
value_of_returns i us r h = absurd (cc h)

answer_in : (op : BinaryOperator) (xs : List Operand) (p : ℕ × Substitution) (d : Overload) → IsChosen (binary_overloads op) xs (Some p) →
    IsStandardAnswer (binary_overloads op) xs (as_type (result_value p.1 (slice_index_or (binary_overloads op) p.0 d)))
answer_in op xs p d c =
    let o = slice_index_or (binary_overloads op) p.0 d in
    let w : o ≡ c.0 = get_or_from_slice_get (binary_overloads op) p.0 c.0 d c.1 in
    let v : is_value (result_of o) ≡ true = subst (λ o. is_value (result_of o) ≡ true) (sym w) (value_at (binary_overloads op) (binary_values op) p.0 c.0 c.1) in
    subst (λ r. IsStandardAnswer (binary_overloads op) xs r) (value_of_returns p.1 _ (result_of o) v) (answer_at (binary_overloads op) xs p d o c refl)

pub value_answer : (op : BinaryOperator) (os : List Overload) (xs : List Operand) (p : ℕ × Substitution) (d : Overload) (r : Option (Dimensions × Scalar)) →
    os ≡ binary_overloads op → IsChosen os xs (Some p) → r ≡ result_value p.1 (slice_index_or os p.0 d) → IsStandardAnswer (binary_overloads op) xs (as_type r)
value_answer op os xs p d r e c h =
    let to : os ≡ binary_overloads op = e in
    subst (λ r. IsStandardAnswer (binary_overloads op) xs (as_type r)) (sym h)
    (subst (λ os. IsStandardAnswer (binary_overloads op) xs (as_type (result_value p.1 (slice_index_or os p.0 d)))) (sym to)
    (answer_in op xs p d (subst (λ os. IsChosen os xs (Some p)) to c)))
