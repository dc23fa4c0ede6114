-- What is called, and the overloads of it.
use Rattle.std.specs.Prelude.{ℕ, List, Option, Some, None, Bool, true, false, ◌||◌, cond, is_some, map}
use Rattle.std.specs.List.{list_any}
use Rattle.std.specs.Str.{bytes_eq}
use Rattle.wgsl_syntax.specs.declared.operator.BinaryOperator.{BinaryOperator}
use Rattle.wgsl_syntax.specs.declared.operator.UnaryOperator.{UnaryOperator}
use Rattle.wgsl_syntax.specs.declared.overload.Overload.{Overload}
use Rattle.wgsl_rules.specs.standard.Operators.{binary_overloads, unary_overloads}
use Rattle.wgsl_rules.specs.standard.Names.{function_table, template_function_table, overloads_named}
use Rattle.wgsl_rules.specs.standard.Evaluation.{is_const_function}
use Rattle.wgsl_rules.specs.standard.ConstructorNames.{constructor_table, template_constructor_table}
use Rattle.wgsl_standard.specs.declared.names.TheConstants.{ALIASES, OTHER_TYPES}
use Rattle.wgsl_standard.specs.declared.callee.Callee.{Callee}
use Rattle.wgsl_standard.specs.declared.callee.Callee.TheVariants as callees

-- an operator, or the name of a built-in function or of a constructor
pub data WgslCallee : Type 0 where
  a_unary : UnaryOperator → WgslCallee
  a_binary : BinaryOperator → WgslCallee
  a_function : List ℕ → WgslCallee
  a_constructor : List ℕ → WgslCallee

abbrev pub callee_view : Callee → WgslCallee
callee_view (callees.Unary o) = a_unary o
callee_view (callees.Binary o) = a_binary o
callee_view (callees.Function name) = a_function name.now
callee_view (callees.Constructor name) = a_constructor name.now

-- the overloads without a template, or those with one; None if no such call is listed
abbrev pub overloads_listed : WgslCallee → Bool → Option (List Overload)
overloads_listed (a_unary o) false = Some (unary_overloads o)
overloads_listed (a_unary o) true = None
overloads_listed (a_binary o) false = Some (binary_overloads o)
overloads_listed (a_binary o) true = None
overloads_listed (a_function name) false = overloads_named name function_table
overloads_listed (a_function name) true = overloads_named name template_function_table
overloads_listed (a_constructor name) false = overloads_named name constructor_table
overloads_listed (a_constructor name) true = overloads_named name template_constructor_table

abbrev pub overloads_of : Callee → Bool → Option (List Overload)
overloads_of callee has_template = overloads_listed (callee_view callee) has_template

-- `vec3f`, `atomic`, `texture_2d`
abbrev pub is_other_type : List ℕ → Bool
is_other_type name = list_any (bytes_eq name) (map (λ other. other.now) ALIASES.now)
    || list_any (bytes_eq name) (map (λ other. other.now) OTHER_TYPES.now)

-- whether a built-in function, a constructor or another predeclared type has the name
abbrev pub is_name : List ℕ → Bool
is_name name = is_some (overloads_named name function_table) || is_some (overloads_named name template_function_table)
    || is_some (overloads_named name constructor_table) || is_some (overloads_named name template_constructor_table)
    || is_other_type name

abbrev pub if_unknown : List ℕ → Option (List ℕ)
if_unknown name = cond (is_name name) None (Some name)

-- the name of what is called, if nothing has it: as `mxi`, and not `max`. Operators always have one
abbrev pub unknown_name : WgslCallee → Option (List ℕ)
unknown_name (a_unary o) = None
unknown_name (a_binary o) = None
unknown_name (a_function name) = if_unknown name
unknown_name (a_constructor name) = if_unknown name

-- Whether a call can be a const-expression. The operators and constructors always can.
abbrev pub can_be_const_expression : WgslCallee → Bool
can_be_const_expression (a_function name) = is_const_function name
can_be_const_expression callee = true
