-- Result types of built-in functions: structs that can't be written in WGSL, transposed matrices, sizes of textures
-- (WGSL, "frexp", "modf", "atomicCompareExchangeWeak", "textureDimensions" and "transpose"; ray queries are naga's).
use Rattle.std.specs.Prelude.{◌≡◌, ◌≢◌, Option, Some, None, codes}
use Rattle.wgsl_syntax.specs.declared.scalar.Scalar.TheVariants.{Bool, U32, F32}
use Rattle.wgsl_syntax.specs.declared.result_struct.ResultFunction.{ResultFunction}
use Rattle.wgsl_syntax.specs.declared.result_struct.ResultShape.{ResultShape}
use Rattle.wgsl_syntax.specs.declared.result_struct.ResultPrecision.{ResultPrecision}
use Rattle.wgsl_syntax.specs.declared.texture.TextureDimensions.{TextureDimensions}
use Rattle.wgsl_syntax.specs.declared.texture.TextureDimensions.TheVariants.{D1, D2, D3}
use Rattle.wgsl_rules.specs.types.Types.{mat_of, WgslType, scalar, within, struct, no_members, array, vec, mat}
use Rattle.wgsl_rules.specs.types.ResultStructs.{shaped, float_of, plain_member, result_struct}

-- the struct that `frexp` or `modf` returns for a fraction; None for any other type
abbrev pub IsResultOf : ResultFunction → WgslType → Option WgslType → Type 0
IsResultOf f t (Some u) = (s : ResultShape) × (p : ResultPrecision) × (t ≡ shaped s (scalar (float_of p))) × (u ≡ result_struct f s p)
IsResultOf f t None = (s : ResultShape) (p : ResultPrecision) → t ≢ shaped s (scalar (float_of p))

-- what `atomicCompareExchangeWeak` returns: the old value, and whether it was exchanged
unfoldable pub exchange_struct : WgslType → WgslType
exchange_struct t =
    struct (codes "__atomic_compare_exchange_result") (plain_member (codes "old_value") t (plain_member (codes "exchanged") (scalar Bool) no_members))

-- the struct in which a ray query returns an intersection
unfoldable pub ray_intersection_struct : WgslType
ray_intersection_struct =
    struct (codes "RayIntersection")
    (plain_member (codes "kind") (scalar U32)
    (plain_member (codes "t") (scalar F32)
    (plain_member (codes "instance_custom_data") (scalar U32)
    (plain_member (codes "instance_index") (scalar U32)
    (plain_member (codes "sbt_record_offset") (scalar U32)
    (plain_member (codes "geometry_index") (scalar U32)
    (plain_member (codes "primitive_index") (scalar U32)
    (plain_member (codes "barycentrics") (vec 2 (scalar F32))
    (plain_member (codes "front_face") (scalar Bool)
    (plain_member (codes "object_to_world") (mat 4 3 (scalar F32))
    (plain_member (codes "world_to_object") (mat 4 3 (scalar F32)) no_members)))))))))))

-- the corners of the triangle that a ray hit
abbrev pub hit_positions_type : WgslType
hit_positions_type = array (Some 3) (vec 3 (scalar F32))

-- the size of a texture: a number, or a vector with one per dimension
abbrev pub size_type : TextureDimensions → WgslType
size_type D1 = scalar U32
size_type D2 = vec 2 (scalar U32)
size_type D3 = vec 3 (scalar U32)

-- a matrix with columns and rows exchanged
abbrev pub transposed_of : WgslType → Option WgslType
transposed_of (within (mat_of c r) t) = Some (mat r c t)
transposed_of t = None
