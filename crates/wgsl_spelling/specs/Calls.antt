-- The values of calls in counts: `max(4, 2)`, `vec2(4, 1).x`.
use Rattle.std.specs.Prelude.{ℕ, List, Option, Some, None}
use Rattle.wgsl_reader.specs.declared.token.Token.{Token}
use Rattle.wgsl_constants.specs.Calls.{called, function_named, with_argument}
use Rattle.wgsl_constants.specs.Literals.{found, then}
use Rattle.wgsl_constants.specs.Values.{map_value}
use Rattle.wgsl_constants.specs.Vectors.{member as member_of, size_named, vector_of}
use Rattle.wgsl_constants.specs.declared.call.Arguments.{Arguments}
use Rattle.wgsl_constants.specs.declared.call.Arguments.TheVariants.{Zero}
use Rattle.wgsl_constants.specs.declared.constant.Constant.TheVariants as c
use Rattle.wgsl_spelling.specs.Items.{call_in, constant, item, vector}
use Rattle.wgsl_spelling.specs.Names.{or_else}
use Rattle.wgsl_spelling.specs.Values.{valued}
use Rattle.wgsl_spelling.specs.Words.{word}
use Rattle.wgsl_spelling.specs.declared.item.Callee.{Callee}
use Rattle.wgsl_spelling.specs.declared.item.Callee.TheVariants as callee
use Rattle.wgsl_spelling.specs.declared.item.Item.{Item}
use Rattle.wgsl_spelling.specs.declared.item.Value.{Value}
use Rattle.wgsl_spelling.specs.declared.item.Value.TheVariants as v

-- what is called by a name: `vec3`, `max`
abbrev pub callee_named : List ℕ → Option Callee
callee_named name = or_else (map_value callee.Vector (size_named name)) (map_value callee.Function (function_named name))

abbrev pub callee_in : List ℕ → Token → Value → Option Callee
callee_in text t v.Name = callee_named (word text t)
callee_in text t (v.Function f) = Some (callee.Function f)
callee_in text t other = None

-- behind the `(` of a call
abbrev pub opened : List ℕ → Item → Option Item
opened text i = map_value (λ callee. item i.token (v.Call callee Zero)) (callee_in text i.token i.value)

-- behind one more of its arguments
abbrev pub argued : Item → Item → Option Item
argued call x =
    then (call_in call.value) (λ of. then (constant x) (λ last. map_value (λ all. item call.token (v.Call of.0 all)) (with_argument last of.1)))

abbrev pub called_value : Callee → Arguments → Option Value
called_value (callee.Vector size) arguments = map_value v.Vector (found (vector_of size arguments))
called_value (callee.Function f) arguments = map_value v.Constant (found (called f arguments))

-- behind the `)`: what has the value of the call
abbrev pub called_item : Item → Option Item
called_item call = then (call_in call.value) (λ of. map_value (item call.token) (called_value of.0 of.1))

-- the component of a vector
abbrev pub member : List ℕ → Item → Option Item
member letter x = then (vector x) (λ of. map_value (λ n. valued x (c.Integer n)) (member_of letter of))
