-- What the predeclared names of types stand for (WGSL, "Predeclared Types", "Predeclared Type-Generators and Aliases").
use Rattle.std.specs.Prelude.{ℕ, ◌-◌, List, [], ◌∷◌, Bool, true, false, ◌&&◌, cond, Option, Some, None, codes, drop, nat_eq, nat_le}
use Rattle.wgsl_syntax.specs.Names.{named, table}
use Rattle.wgsl_syntax.specs.Scalar.{scalar_text, scalars}
use Rattle.wgsl_syntax.specs.TextureName.{texture_name_text, texture_names}
use Rattle.wgsl_syntax.specs.declared.scalar.Scalar.{Scalar}
use Rattle.wgsl_syntax.specs.declared.scalar.Scalar.TheVariants as scalar
use Rattle.wgsl_syntax.specs.declared.texture.SamplerType.TheVariants as sampler
use Rattle.wgsl_constants.specs.Literals.{then}
use Rattle.wgsl_constants.specs.Values.{map_value}
use Rattle.wgsl_spelling.specs.Names.{or_else}
use Rattle.wgsl_spelling.specs.declared.predeclared.PredeclaredType.{PredeclaredType}
use Rattle.wgsl_spelling.specs.declared.predeclared.PredeclaredType.TheVariants as p
use Rattle.wgsl_spelling.specs.declared.predeclared.LayerName.TheVariants as layer

-- the types without a number in their names
abbrev pub other_names : List (PredeclaredType × List ℕ)
other_names =
    (p.Layer layer.Array, codes "array") ∷ (p.Layer layer.Atomic, codes "atomic") ∷ (p.Layer layer.Pointer, codes "ptr") ∷
    (p.Layer layer.Reference, codes "ref") ∷ (p.Layer layer.BindingArray, codes "binding_array") ∷
    (p.Sampler sampler.Sampler, codes "sampler") ∷ (p.Sampler sampler.SamplerComparison, codes "sampler_comparison") ∷
    (p.RayQuery, codes "ray_query") ∷ (p.AccelerationStructure, codes "acceleration_structure") ∷ []

-- a number of components, columns or rows: `2` to `4`
abbrev pub count : ℕ → Option ℕ
count digit = cond (nat_le 50 digit && nat_le digit 52) (Some (digit - 48)) None

-- the letter of a scalar in an alias: `f` or `h`; `i` or `u`
abbrev pub short_float : ℕ → Option Scalar
short_float letter = cond (nat_eq letter 102) (Some scalar.F32) (cond (nat_eq letter 104) (Some scalar.F16) None)

abbrev pub short_scalar : ℕ → Option Scalar
short_scalar letter = cond (nat_eq letter 105) (Some scalar.I32) (cond (nat_eq letter 117) (Some scalar.U32) (short_float letter))

-- `3` and `3f`, behind `vec`
abbrev pub vector_type : List ℕ → Option PredeclaredType
vector_type (n ∷ []) = map_value (λ n. p.Layer (layer.Vec n)) (count n)
vector_type (n ∷ letter ∷ []) = then (count n) (λ n. map_value (p.Vec n) (short_scalar letter))
vector_type other = None

-- `4x3` and `4x3f`, behind `mat`
abbrev pub matrix_type : List ℕ → Option PredeclaredType
matrix_type (c ∷ x ∷ r ∷ []) = cond (nat_eq x 120) (then (count c) (λ c. map_value (λ r. p.Layer (layer.Mat c r)) (count r))) None
matrix_type (c ∷ x ∷ r ∷ letter ∷ []) =
    cond (nat_eq x 120) (then (count c) (λ c. then (count r) (λ r. map_value (p.Mat c r) (short_float letter)))) None
matrix_type other = None

-- the name begins with these three letters
abbrev pub begins : ℕ → ℕ → ℕ → List ℕ → Bool
begins a b c (x ∷ y ∷ z ∷ rest) = nat_eq x a && nat_eq y b && nat_eq z c
begins a b c short = false

-- `vec3`, `mat4x3f`, `array`
abbrev pub other_type : List ℕ → Option PredeclaredType
other_type name =
    cond (begins 118 101 99 name) (vector_type (drop 3 name))
    (cond (begins 109 97 116 name) (matrix_type (drop 3 name))
    (named other_names name))

abbrev pub predeclared : List ℕ → Option PredeclaredType
predeclared name =
    or_else (map_value p.Scalar (named (table scalar_text scalars) name))
    (or_else (map_value p.Texture (named (table texture_name_text texture_names) name))
    (other_type name))

-- the type is one of half precision: `f16`, `vec3h`
abbrev pub is_half : PredeclaredType → Bool
is_half (p.Scalar scalar.F16) = true
is_half (p.Vec n scalar.F16) = true
is_half (p.Mat c r scalar.F16) = true
is_half named = false

-- naga alone has the type: `i64`, `ray_query`
abbrev pub is_naga_only : PredeclaredType → Bool
is_naga_only (p.Scalar scalar.I64) = true
is_naga_only (p.Scalar scalar.U64) = true
is_naga_only (p.Scalar scalar.F64) = true
is_naga_only p.RayQuery = true
is_naga_only p.AccelerationStructure = true
is_naga_only (p.Layer layer.BindingArray) = true
is_naga_only named = false
