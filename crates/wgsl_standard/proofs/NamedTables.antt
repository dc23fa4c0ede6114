-- The overloads of what is called are few and unambiguous.
use Rattle.std.proofs.Common.{◌≡◌, ◌<◌, ◌&&◌, ℕ, List, [], ◌∷◌, Option, Some, None, length, nat_lt, refl, sym, subst, IfSome, IsTrue, option_map, bytes_eq, Bool, true, false, if◌then◌else◌, ltb-true, Bor}
use Rattle.wgsl_standard.proofs.Common.{list_all, and_parts, UnaryOperator, BinaryOperator, Overload, function_table, template_function_table, overloads_named, constructor_table, template_constructor_table, IsUnambiguous, or_none, Callee}
use Rattle.wgsl_syntax.specs.declared.operator.UnaryOperator.TheVariants as unary
use Rattle.wgsl_syntax.specs.declared.operator.BinaryOperator.TheVariants as binary
use Rattle.wgsl_rules.specs.standard.Operators.{binary_overloads, unary_overloads}
use Rattle.wgsl_standard.specs.internal.Ambiguity.{is_unambiguous}
use Rattle.wgsl_standard.specs.Callees.{WgslCallee, a_binary, a_constructor, a_function, a_unary, callee_view, overloads_listed, overloads_of}
use Rattle.wgsl_standard.proofs.Unambiguous.{unambiguous_is}

pub record IsTable (os : List Overload) : Type 0 where
  pub unambiguous : IsUnambiguous os
  pub few : length os < 256

is_table : List Overload → Bool
is_table os = is_unambiguous os && nat_lt (length os) 256

table : (os : List Overload) → IsTrue (is_table os) → IsTable os
unfolding is_table
table os h =
    let k = and_parts (is_unambiguous os) (nat_lt (length os) 256) h in
    record { unambiguous = unambiguous_is os k.0; few = ltb-true (length os) 256 k.1 }

abbrev pub IfTable : Option (List Overload) → Type 0
IfTable None = Unit {0}
IfTable (Some os) = IsTable os

named_table : (name : List ℕ) (rows : List (List ℕ × List Overload)) → IsTrue (list_all (λ row. is_table row.1) rows) → IfTable (overloads_named name rows)
named_table name [] h = tt
named_table name (row ∷ rows) h = turn (bytes_eq name row.0) (named_table name rows (and_parts (is_table row.1) (list_all (λ row. is_table row.1) rows) h).1)
  where
    turn : (b : Bool) → IfTable (overloads_named name rows) → IfTable (if b then Some row.1 else overloads_named name rows)
    turn true f = table row.1 (and_parts (is_table row.1) (list_all (λ row. is_table row.1) rows) h).0
    turn false f = f

functions_named : (name : List ℕ) → IfTable (overloads_named name function_table)
unfolding is_table function_table
functions_named name = named_table name function_table refl

template_functions_named : (name : List ℕ) → IfTable (overloads_named name template_function_table)
unfolding is_table
template_functions_named name = named_table name template_function_table refl

constructors_named : (name : List ℕ) → IfTable (overloads_named name constructor_table)
unfolding is_table constructor_table
constructors_named name = named_table name constructor_table refl

templates_named : (name : List ℕ) → IfTable (overloads_named name template_constructor_table)
unfolding is_table template_constructor_table
templates_named name = named_table name template_constructor_table refl

unary_table : (o : UnaryOperator) → IsTable (unary_overloads o)
unfolding is_table
unary_table unary.LogicalNegation = table _ refl
unary_table o = table _ refl

binary_table : (o : BinaryOperator) → IsTable (binary_overloads o)
unfolding is_table
binary_table binary.ShortCircuitOr = table _ refl
binary_table o = table _ refl

pub binary_unambiguous : (o : BinaryOperator) → IsUnambiguous (binary_overloads o)
binary_unambiguous o = (binary_table o).unambiguous

pub listed_table : (callee : WgslCallee) (t : Bool) → IfTable (overloads_listed callee t)
listed_table (a_unary o) false = unary_table o
listed_table (a_binary o) false = binary_table o
listed_table (a_function name) false = functions_named name
listed_table (a_function name) true = template_functions_named name
listed_table (a_constructor name) false = constructors_named name
listed_table (a_constructor name) true = templates_named name
listed_table callee t = tt

pub overloads_unambiguous : (callee : Callee) (t : Bool) (r : Option (Bor (List Overload))) → option_map (λ o. o.now) r ≡ overloads_of callee t → IfSome r (λ o. IsUnambiguous o.now)
overloads_unambiguous callee t r e = turn r (subst IfTable (sym e) (listed_table (callee_view callee) t))
  where
    turn : (r : Option (Bor (List Overload))) → IfTable (option_map (λ o. o.now) r) → IfSome r (λ o. IsUnambiguous o.now)
    turn None h = tt
    turn (Some o) h = h.unambiguous

pub few : (r : Option (List Overload)) → IfTable r → length (or_none r) < 256
few None h = ltb-true 0 256 refl
few (Some os) h = h.few
