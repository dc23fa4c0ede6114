-- No function and no constructor has the name of an operator, and no constructor that of a function.
use Rattle.std.proofs.Common.{◌≡◌, ◌&&◌, ℕ, Bool, true, false, List, [], ◌∷◌, Some, refl, subst, sym, IsTrue, bytes_eq, if◌then◌else◌, slice_get}
use Rattle.wgsl_standard.proofs.Common.{bytes_eq-Decides, Overload, function_table, template_function_table, overloads_named, constructor_table, template_constructor_table, or_none, binary_operators_named, unary_operators_named, and_parts}

abbrev is_empty : {A : Type 0} → List A → Bool
is_empty [] = true
is_empty (x ∷ xs) = false

empty : {A : Type 0} (xs : List A) → IsTrue (is_empty xs) → xs ≡ []
empty [] h = refl
empty (x ∷ xs) h = cc h

abbrev is_no_operator : List ℕ → Bool
is_no_operator name = is_empty (unary_operators_named name) && is_empty (binary_operators_named name)

abbrev is_new : List ℕ → Bool
is_new name = is_no_operator name && (is_empty (or_none (overloads_named name function_table)) && is_empty (or_none (overloads_named name template_function_table)))

-- a test that each name of a table passes
abbrev all_pass : (List ℕ → Bool) → List (List ℕ × List Overload) → Bool
all_pass f [] = true
all_pass f (row ∷ rows) = f row.0 && all_pass f rows

-- a name that the table has passes it
passes : (f : List ℕ → Bool) (name : List ℕ) (rows : List (List ℕ × List Overload)) (at : ℕ) (o : Overload) → IsTrue (all_pass f rows)
    → slice_get (or_none (overloads_named name rows)) at ≡ Some o → IsTrue (f name)
passes f name [] at o h e = absurd (cc e)
passes f name (row ∷ rows) at o h e = turn (bytes_eq name row.0) refl (passes f name rows at o (and_parts (f row.0) (all_pass f rows) h).1) e
  where
    turn : (b : Bool) → bytes_eq name row.0 ≡ b → (slice_get (or_none (overloads_named name rows)) at ≡ Some o → IsTrue (f name)) →
        slice_get (or_none (if b then Some row.1 else overloads_named name rows)) at ≡ Some o → IsTrue (f name)
    turn true same later e = subst (λ n. IsTrue (f n)) (sym ((bytes_eq-Decides name row.0).0 same)) (and_parts (f row.0) (all_pass f rows) h).0
    turn false same later e = later e

pub record IsNoOperator (name : List ℕ) : Type 0 where
  pub unary : unary_operators_named name ≡ []
  pub binary : binary_operators_named name ≡ []

no_operator : (name : List ℕ) → IsTrue (is_no_operator name) → IsNoOperator name
no_operator name h =
    let apart = and_parts (is_empty (unary_operators_named name)) (is_empty (binary_operators_named name)) h in
    record { unary = empty (unary_operators_named name) apart.0; binary = empty (binary_operators_named name) apart.1 }

pub record IsNew (name : List ℕ) : Type 0 where
  pub operator : IsNoOperator name
  pub function : or_none (overloads_named name function_table) ≡ []
  pub template_function : or_none (overloads_named name template_function_table) ≡ []

new : (name : List ℕ) → IsTrue (is_new name) → IsNew name
new name h =
    let plain = is_empty (or_none (overloads_named name function_table)) in
    let templated = is_empty (or_none (overloads_named name template_function_table)) in
    let apart = and_parts (is_no_operator name) (plain && templated) h in
    let unlisted = and_parts plain templated apart.1 in record {
      operator = no_operator name apart.0;
      function = empty (or_none (overloads_named name function_table)) unlisted.0;
      template_function = empty (or_none (overloads_named name template_function_table)) unlisted.1;
    }

pub function_apart : (name : List ℕ) (at : ℕ) (o : Overload) → slice_get (or_none (overloads_named name function_table)) at ≡ Some o → IsNoOperator name
unfolding function_table
function_apart name at o e = no_operator name (passes is_no_operator name function_table at o refl e)

pub template_function_apart : (name : List ℕ) (at : ℕ) (o : Overload) → slice_get (or_none (overloads_named name template_function_table)) at ≡ Some o → IsNoOperator name
template_function_apart name at o e = no_operator name (passes is_no_operator name template_function_table at o refl e)

pub constructor_apart : (name : List ℕ) (at : ℕ) (o : Overload) → slice_get (or_none (overloads_named name constructor_table)) at ≡ Some o → IsNew name
unfolding function_table constructor_table
constructor_apart name at o e = new name (passes is_new name constructor_table at o refl e)

pub template_apart : (name : List ℕ) (at : ℕ) (o : Overload) → slice_get (or_none (overloads_named name template_constructor_table)) at ≡ Some o → IsNew name
unfolding function_table template_constructor_table
template_apart name at o e = new name (passes is_new name template_constructor_table at o refl e)
