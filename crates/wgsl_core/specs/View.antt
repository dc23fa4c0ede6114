-- How the rules see a `Type`.
use Rattle.std.specs.Prelude.{ℕ, List, [], ◌∷◌, Option, string_bytes}
use Rattle.wgsl_syntax.specs.declared.scalar.Scalar.TheVariants.{Bool, AbstractInt, AbstractFloat, I32, U32, F32, F16, I64, U64, F64}
use Rattle.wgsl_rules.specs.types.Types.{WgslType, scalar, struct, atomic, pointer, reference, texture, sampler, binding_array, ray_query, acceleration_structure, Members, no_members, member, array, vec, mat}
use Rattle.wgsl_core.specs.declared.ty.Type.{«Type», fold-Type}
use Rattle.wgsl_core.specs.declared.ty.Type.TheOpen.{Type-F, StructType-F, StructMemberType-F}
use Rattle.wgsl_core.specs.declared.ty.StructType.{StructType, fold-StructType}
use Rattle.wgsl_core.specs.declared.ty.StructMemberType.{StructMemberType, fold-StructMemberType}

-- a member: its name, its type, and its attributes size and align
pub record Member : Type 0 where
  pub name : List ℕ
  pub ty : WgslType
  pub size : Option ℕ
  pub align : Option ℕ

-- a struct: its name and its members
pub record Struct : Type 0 where
  pub name : List ℕ
  pub members : Members

abbrev pub members_of : List Member → Members
members_of [] = no_members
members_of (m ∷ ms) = member m.name m.ty m.size m.align (members_of ms)

-- one level of a type, whose inner types are views already
abbrev pub type_step : Type-F WgslType Member Struct → WgslType
type_step Type-F.Bool = scalar Bool
type_step Type-F.AbstractInt = scalar AbstractInt
type_step Type-F.AbstractFloat = scalar AbstractFloat
type_step Type-F.I32 = scalar I32
type_step Type-F.U32 = scalar U32
type_step Type-F.F32 = scalar F32
type_step Type-F.F16 = scalar F16
type_step (Type-F.Struct s) = struct (s.value).name (s.value).members
type_step (Type-F.Array t n) = array n t.value
type_step (Type-F.Vec n t) = vec n t.value
type_step (Type-F.Mat c r t) = mat c r t.value
type_step (Type-F.Atomic t) = atomic t.value
type_step (Type-F.Ptr s t m) = pointer s t.value m
type_step (Type-F.Ref s t m) = reference s t.value m
type_step (Type-F.Texture t) = texture t
type_step (Type-F.Sampler s) = sampler s
type_step Type-F.I64 = scalar I64
type_step Type-F.U64 = scalar U64
type_step Type-F.F64 = scalar F64
type_step (Type-F.BindingArray t n) = binding_array n t.value
type_step (Type-F.RayQuery f) = ray_query f
type_step (Type-F.AccelerationStructure f) = acceleration_structure f

abbrev pub member_step : StructMemberType-F WgslType Member Struct → Member
member_step m = record { name = string_bytes m.name; ty = m.ty; size = m.size; align = m.align }

abbrev pub struct_step : StructType-F WgslType Member Struct → Struct
struct_step s = record { name = string_bytes s.name; members = members_of (s.members).items }

abbrev pub view : «Type» → WgslType
view = fold-Type WgslType Member Struct type_step member_step struct_step

abbrev pub member_view : StructMemberType → Member
member_view = fold-StructMemberType WgslType Member Struct type_step member_step struct_step

abbrev pub struct_view : StructType → Struct
struct_view = fold-StructType WgslType Member Struct type_step member_step struct_step
