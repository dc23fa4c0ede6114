-- Abstract types with the result structs of abstract floats, and the concrete type for each (WGSL, "Abstract Numeric Types").
use Rattle.std.specs.Prelude.{List, [], ◌∷◌, Option, Some, None, Bool, true, false, cond}
use Rattle.wgsl_standard.specs.forms.Prelude.{AbstractInt, AbstractFloat, I32, F32, ResultFunction, ResultShape, mat_of, WgslType, scalar, within, struct, type_eq}
use Rattle.wgsl_syntax.specs.declared.result_struct.ResultFunction.TheVariants.{Frexp, Modf}
use Rattle.wgsl_syntax.specs.declared.result_struct.ResultShape.TheVariants as shape
use Rattle.wgsl_syntax.specs.declared.result_struct.ResultPrecision.TheVariants as precision
use Rattle.wgsl_rules.specs.types.ResultStructs.{result_struct}

-- the result structs of `frexp` and `modf` for abstract floats, by function and shape
abbrev pub abstract_results : List (ResultFunction × ResultShape)
abstract_results =
    (Frexp, shape.Scalar) ∷ (Frexp, shape.Vec2) ∷ (Frexp, shape.Vec3) ∷ (Frexp, shape.Vec4)
    ∷ (Modf, shape.Scalar) ∷ (Modf, shape.Vec2) ∷ (Modf, shape.Vec3) ∷ (Modf, shape.Vec4) ∷ []

-- the first of them that the type is
abbrev pub result_among : List (ResultFunction × ResultShape) → WgslType → Option (ResultFunction × ResultShape)
result_among [] t = None
result_among (r ∷ rs) t = cond (type_eq t (result_struct r.0 r.1 precision.Abstract)) (Some r) (result_among rs t)

-- `__frexp_result_vec2_abstract` is that of `frexp` and `vec2`
unfoldable pub abstract_result : WgslType → Option (ResultFunction × ResultShape)
abstract_result t = result_among abstract_results t

abbrev pub is_result : Option (ResultFunction × ResultShape) → Bool
is_result (Some r) = true
is_result None = false

abbrev pub concrete_result : WgslType → Option (ResultFunction × ResultShape) → WgslType
concrete_result t (Some r) = result_struct r.0 r.1 precision.F32
concrete_result t None = t

-- an abstract number, the result struct of an abstract float, or an array, a vector or a matrix of an abstract type
abbrev pub has_abstract_type : WgslType → Bool
has_abstract_type (scalar AbstractInt) = true
has_abstract_type (scalar AbstractFloat) = true
has_abstract_type (within l t) = has_abstract_type t
has_abstract_type (struct name ms) = is_result (abstract_result (struct name ms))
has_abstract_type t = false

-- the type, made concrete
abbrev pub concrete_of : WgslType → WgslType
-- AbstractInt : i32
concrete_of (scalar AbstractInt) = scalar I32
-- AbstractFloat : f32
concrete_of (scalar AbstractFloat) = scalar F32
-- mat2x2<AbstractFloat> : mat2x2<f32>
concrete_of (within (mat_of c r) t) = cond (has_abstract_type t) (within (mat_of c r) (scalar F32)) (within (mat_of c r) t)
-- array<vec3<AbstractInt>, 2> : array<vec3<i32>, 2>
concrete_of (within l t) = within l (concrete_of t)
-- __frexp_result_abstract : __frexp_result_f32
concrete_of (struct name ms) = concrete_result (struct name ms) (abstract_result (struct name ms))
-- any other type stays
concrete_of t = t
