-- Which name a call may have meant, if nothing has its name.
use Rattle.std.specs.Prelude.{ℕ, List, ◌++◌, Option, Some, None}
use Rattle.wgsl_syntax.specs.Nearest.{nearest_of, word_for}
use Rattle.wgsl_rules.specs.standard.Names.{function_table, names_of, template_function_table}
use Rattle.wgsl_rules.specs.standard.ConstructorNames.{constructor_table}

-- the names of built-in functions and of constructors
abbrev pub names_called : List (List ℕ)
names_called = names_of function_table ++ names_of template_function_table ++ names_of constructor_table

abbrev or_nearest : Option (List ℕ) → Option (List ℕ) → Option (List ℕ)
or_nearest (Some word) nearest = Some word
or_nearest None nearest = nearest

-- `vec3f` for `float3`, and `f32` for `f23`
abbrev pub meant_type : List ℕ → Option (List ℕ)
meant_type name = or_nearest (word_for name) (nearest_of name (names_of constructor_table))

-- `vec3f` for `float3`, and `mix` for `mxi`
abbrev pub meant : List ℕ → Option (List ℕ)
meant name = or_nearest (word_for name) (nearest_of name names_called)
