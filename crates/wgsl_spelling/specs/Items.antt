-- What is read of a type and isn't yet part of a larger one. The last item stands first.
use Rattle.std.specs.Prelude.{Bool, true, false, Option, Some, None}
use Rattle.wgsl_constants.specs.declared.call.Arguments.{Arguments}
use Rattle.wgsl_constants.specs.declared.constant.Constant.{Constant}
use Rattle.wgsl_constants.specs.declared.constant.Constant.TheVariants as c
use Rattle.wgsl_constants.specs.declared.integer.Integer.{Integer}
use Rattle.wgsl_constants.specs.declared.vector.Vector.{Vector}
use Rattle.wgsl_reader.specs.declared.token.Token.{Token}
use Rattle.wgsl_spelling.specs.declared.item.Callee.{Callee}
use Rattle.wgsl_spelling.specs.declared.item.Item.{Item}
use Rattle.wgsl_spelling.specs.declared.item.Value.{Value}
use Rattle.wgsl_spelling.specs.declared.item.Value.TheVariants as v

abbrev pub item : Token → Value → Item
item token value = record { token = token; value = value }

abbrev pub constant_in : Value → Option Constant
constant_in (v.Constant x) = Some x
constant_in other = None

-- the constant that an item is
abbrev pub constant : Item → Option Constant
constant i = constant_in i.value

abbrev pub integer_in : Value → Option Integer
integer_in (v.Constant (c.Integer n)) = Some n
integer_in other = None

-- the integer that an item is
abbrev pub integer : Item → Option Integer
integer i = integer_in i.value

abbrev pub vector_in : Value → Option Vector
vector_in (v.Vector x) = Some x
vector_in other = None

-- the vector that an item is
abbrev pub vector : Item → Option Vector
vector i = vector_in i.value

-- what is called, and the arguments so far
abbrev pub call_in : Value → Option (Callee × Arguments)
call_in (v.Call callee arguments) = Some (callee, arguments)
call_in other = None

-- constants and vectors have values
abbrev pub is_value : Value → Bool
is_value (v.Constant x) = true
is_value (v.Vector x) = true
is_value other = false
