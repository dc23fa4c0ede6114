-- The types of WGSL as mathematical values, without memory (WGSL, "Types").
use Rattle.std.specs.Prelude.{ℕ, List, Option}
pub use Rattle.wgsl_syntax.specs.declared.layer.Layer.{Layer}
pub use Rattle.wgsl_syntax.specs.declared.layer.Layer.TheVariants.{Array as array_of, Vec as vec_of, Mat as mat_of}
use Rattle.wgsl_syntax.specs.declared.scalar.Scalar.{Scalar}
use Rattle.wgsl_syntax.specs.declared.address.AddressSpace.{AddressSpace}
use Rattle.wgsl_syntax.specs.declared.address.AccessMode.{AccessMode}
use Rattle.wgsl_syntax.specs.declared.attribute.AccelerationStructureFlags.{AccelerationStructureFlags}
use Rattle.wgsl_syntax.specs.declared.texture.TextureType.{TextureType}
use Rattle.wgsl_syntax.specs.declared.texture.SamplerType.{SamplerType}

mutual
  pub data WgslType : Type 0 where
    scalar : Scalar → WgslType
    within : Layer → WgslType → WgslType
    struct : List ℕ → Members → WgslType
    atomic : WgslType → WgslType
    pointer : AddressSpace → WgslType → AccessMode → WgslType
    reference : AddressSpace → WgslType → AccessMode → WgslType
    texture : TextureType → WgslType
    sampler : SamplerType → WgslType
    binding_array : Option ℕ → WgslType → WgslType
    ray_query : Option AccelerationStructureFlags → WgslType
    acceleration_structure : Option AccelerationStructureFlags → WgslType

  -- the members in order, each with its name, its type, and its attributes `size` and `align`
  pub data Members : Type 0 where
    no_members : Members
    member : List ℕ → WgslType → Option ℕ → Option ℕ → Members → Members

pattern abbrev pub array : Option ℕ → WgslType → WgslType
array n t = within (array_of n) t

pattern abbrev pub vec : ℕ → WgslType → WgslType
vec n t = within (vec_of n) t

pattern abbrev pub mat : ℕ → ℕ → WgslType → WgslType
mat c r t = within (mat_of c r) t
