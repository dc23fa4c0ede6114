-- Expressions, as the rules see them.
use Rattle.std.specs.Prelude.{Bool, cond, not, ◌&&◌, ◌||◌}
use Rattle.wgsl_standard.specs.forms.Prelude.{WgslType, Operand, Referent, Whole, Swizzle}
use Rattle.wgsl_standard.specs.forms.Memory.{behind, formed_from, is_memory}
use Rattle.wgsl_standard.specs.forms.Concrete.{has_abstract_type}

-- An operand is a const-expression if it is said to be one or has an abstract type; a reference or a pointer never is.
abbrev pub is_const_expression : Operand → Bool
is_const_expression x = (x.is_constant || has_abstract_type x.of_type) && not (is_memory x.of_type)

-- an expression: its type, whether it is a const-expression, and what it refers to if it is a reference
pub record Expression : Type 0 where
  pub of_type : WgslType
  pub is_constant : Bool
  pub referent : Referent

-- what a part of an operand refers to: a part of a value refers to nothing
abbrev pub referent_in : WgslType → Referent → Referent
referent_in t r = cond (is_memory t) r Whole

-- a part of an operand, of that type: in memory a reference to it
abbrev pub part_of : Operand → Referent → WgslType → Expression
part_of x r t = record { of_type = formed_from x.of_type t; is_constant = is_const_expression x; referent = referent_in x.of_type r }

-- a value that is made of parts of an operand
abbrev pub value_from : Operand → WgslType → Expression
value_from x t = record { of_type = t; is_constant = is_const_expression x; referent = Whole }

-- the type that is shown of what refers to that: `v.xy` shows as `vec2<f32>`, although it can be assigned to
abbrev pub shown_as : Referent → WgslType → WgslType
shown_as Swizzle t = behind t
shown_as r t = t

abbrev pub shown_type : Expression → WgslType
shown_type e = shown_as e.referent e.of_type
