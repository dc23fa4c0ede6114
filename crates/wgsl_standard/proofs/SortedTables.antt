-- The names of the tables are sorted and distinct.
use Rattle.std.proofs.Common.{◌≡◌, ℕ, List, refl, sym, subst}
use Rattle.wgsl_standard.proofs.Common.{Overload, IsRising, function_table, names_of, constructor_table, template_constructor_table}
use Rattle.wgsl_rules.proofs.calls.SortedNames.{rises_far}

pub functions_sorted : IsRising (names_of function_table)
unfolding function_table
functions_sorted = rises_far (names_of function_table) refl

pub constructors_sorted : IsRising (names_of constructor_table)
unfolding constructor_table
constructors_sorted = rises_far (names_of constructor_table) refl

pub templates_sorted : IsRising (names_of template_constructor_table)
unfolding template_constructor_table
templates_sorted = rises_far (names_of template_constructor_table) refl

-- rows that are those of the functions
pub rows_sorted : (rows : List (List ℕ × List Overload)) → rows ≡ function_table → IsRising (names_of rows)
rows_sorted rows e = subst (λ rows. IsRising (names_of rows)) (sym e) functions_sorted
