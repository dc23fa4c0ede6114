-- The values of operators and calls (WGSL, "Expressions", "Value Constructor Built-in Functions", "Built-in Functions").
use Rattle.std.specs.Prelude.{ℕ, List, [], ◌∷◌, Option, Some, None, bytes_eq, codes, cond, slice_get}
use Rattle.wgsl_core.specs.Forms.{scalar_of}
use Rattle.wgsl_rules.specs.types.Types.{WgslType}
use Rattle.wgsl_constants.specs.Calls.{bitcast, called, conversion, function_named, with_argument}
use Rattle.wgsl_constants.specs.Literals.{found, then}
use Rattle.wgsl_constants.specs.Values.{map_value}
use Rattle.wgsl_constants.specs.Vectors.{dot, each, each_of_two, size_named, vector_of, with_components}
use Rattle.wgsl_constants.specs.declared.call.Arguments.{Arguments}
use Rattle.wgsl_constants.specs.declared.call.Arguments.TheVariants.{Zero}
use Rattle.wgsl_constants.specs.declared.call.Function.{Function}
use Rattle.wgsl_constants.specs.declared.vector.Size.{Size}
use Rattle.wgsl_constants.specs.declared.vector.Vector.{Vector}
use Rattle.wgsl_reader.specs.declared.kind.Kind.{Kind}
use Rattle.wgsl_spelling.specs.Values.{beside, binary_value, binary_vectors, unary_value, unary_vector}
use Rattle.wgsl_typing.specs.Elements.{one}
use Rattle.wgsl_typing.specs.declared.value.Value.{Value}
use Rattle.wgsl_typing.specs.declared.value.Value.TheVariants.{One, Several}

-- Operators

-- `-1`, `!true`, `-vec2(1, 2)`
abbrev pub unary : Kind → Value → Option Value
unary sign (One x) = map_value One (unary_value sign x)
unary sign (Several x) = map_value Several (unary_vector sign x)
unary sign other = None

-- `1 + 2`, `1 < 2`, `vec2(1, 2) + vec2(3, 4)`, `vec2(1, 2) + 1`
abbrev pub binary : Kind → Value → Value → Option Value
binary sign (One x) (One y) = map_value One (binary_value sign x y)
binary sign (Several x) (Several y) = map_value Several (binary_vectors sign x y)
binary sign (Several x) (One y) = then (beside sign y x) (λ y. map_value Several (binary_vectors sign x y))
binary sign (One x) (Several y) = then (beside sign x y) (λ x. map_value Several (binary_vectors sign x y))
binary sign x y = None

-- Arguments: a vector counts as its components

abbrev pub with_value : Option Value → Arguments → Option Arguments
with_value (Some (One x)) given = with_argument x given
with_value (Some (Several x)) given = with_components x given
with_value other given = None

abbrev pub with_values : List (Option Value) → Arguments → Option Arguments
with_values [] given = Some given
with_values (value ∷ values) given = then (with_value value given) (with_values values)

-- Constructors of vectors

abbrev pub in_template : Option WgslType → Vector → Option Vector
in_template None x = Some x
in_template (Some t) x = then (then (scalar_of t) conversion) (λ function. found (each function x))

-- `vec2(1, 2)`, `vec3(vec2(1, 2), 3)`, `vec2<u32>(vec2(1, 2))`
abbrev pub constructed : Size → Option WgslType → List (Option Value) → Option Vector
constructed size t values = then (with_values values Zero) (λ given. then (found (vector_of size given)) (in_template t))

-- Functions

-- `max`, `bitcast<u32>`
abbrev pub function_of : List ℕ → Option WgslType → Option Function
function_of name t = cond (bytes_eq name (codes "bitcast")) (then t (λ t. then (scalar_of t) bitcast)) (function_named name)

abbrev pub several : Option Value → Option Vector
several (Some (Several x)) = Some x
several other = None

abbrev pub vector_at : List (Option Value) → ℕ → Option Vector
vector_at values n = then (slice_get values n) several

abbrev pub applied_to : Function → Option Vector → Option Vector → List (Option Value) → Option Value
applied_to function (Some x) (Some y) values = map_value Several (found (each_of_two function x y))
applied_to function (Some x) None values = map_value Several (found (each function x))
applied_to function None y values = then (with_values values Zero) (λ given. map_value One (found (called function given)))

-- `max(1, 2)`, `abs(vec2(1, -2))`, `max(vec2(1, 2), vec2(2, 1))`
abbrev pub applied : Function → List (Option Value) → Option Value
applied function values = applied_to function (vector_at values 0) (vector_at values 1) values

-- `dot(vec2(1, 2), vec2(3, 4))`
abbrev pub product : List (Option Value) → Option Value
product values = then (vector_at values 0) (λ x. then (vector_at values 1) (λ y. map_value one (found (dot x y))))

abbrev pub called_by : Option Size → Option Function → Option WgslType → List (Option Value) → Option Value
called_by (Some size) function t values = map_value Several (constructed size t values)
called_by None (Some function) t values = applied function values
called_by None None t values = None

-- the value of a call of a built-in function or of a constructor with these arguments, which have the types of its parameters
abbrev pub call : List ℕ → Option WgslType → List (Option Value) → Option Value
call name t values = cond (bytes_eq name (codes "dot")) (product values) (called_by (size_named name) (function_of name t) t values)
