-- The types that names with template parameters stand for (WGSL, "Template Lists" and "Types").
use Rattle.std.specs.Prelude.{ℕ, zero, suc, ℤ, pos, negsuc, List, [], ◌∷◌, ◌≡◌, ◌⊎◌, Option, Some, None, Result, Ok, Err, codes, option_map, ok_or}
use Rattle.wgsl_syntax.specs.Names.{named, table}
use Rattle.wgsl_syntax.specs.TextureName.{parameter_kind, texture_name_text, texture_names, texture_with}
use Rattle.wgsl_syntax.specs.declared.scalar.Scalar.TheVariants.{I32, U32, F32, I64, U64}
use Rattle.wgsl_syntax.specs.declared.address.AddressSpace.{AddressSpace}
use Rattle.wgsl_syntax.specs.declared.address.AddressSpace.TheVariants.{Function, Private, Workgroup, Uniform, Storage, Handle, PushConstant}
use Rattle.wgsl_syntax.specs.declared.address.AccessMode.{AccessMode}
use Rattle.wgsl_syntax.specs.declared.address.AccessMode.TheVariants.{Read, ReadWrite}
use Rattle.wgsl_syntax.specs.declared.texel.TexelFormat.{TexelFormat}
use Rattle.wgsl_syntax.specs.declared.texture.SampledType.{SampledType}
use Rattle.wgsl_syntax.specs.declared.texture.TextureType.{TextureType}
use Rattle.wgsl_syntax.specs.declared.texture_name.TextureName.{TextureName}
use Rattle.wgsl_syntax.specs.declared.texture_name.TextureParameterKind.{TextureParameterKind}
use Rattle.wgsl_syntax.specs.declared.texture_name.TextureParameterKind.TheVariants as kinds
use Rattle.wgsl_syntax.specs.declared.texture_name.TextureParameters.{TextureParameters}
use Rattle.wgsl_syntax.specs.declared.texture_name.TextureParameters.TheVariants as parameters
use Rattle.wgsl_syntax.specs.declared.enumerant.Enumerant.TheVariants as enumerants
use Rattle.wgsl_rules.specs.types.Types.{WgslType, scalar, array, binding_array, pointer}
use Rattle.wgsl_rules.specs.types.Kinds.{IsScalar, IsFloatScalar, IsNumericOrVector}
use Rattle.wgsl_rules.specs.conversion.Concrete.{IsAbstract, IsStorable}
use Rattle.wgsl_rules.specs.types.Inner.{sampled_of}
use Rattle.wgsl_rules.specs.types.Literals.{Literal, bool, abstract_int, i32, u32, i64, u64}
use Rattle.wgsl_rules.specs.types.Signatures.{Parameter, of_type, of_literal, of_enumerant}
use Rattle.wgsl_rules.specs.errors.Refusals.{Refusal, todo, ptr_handle, sampled_type, builtin, template_args}

-- an integer above 0
abbrev pub above_zero : ℤ → Option ℕ
above_zero (pos zero) = None
above_zero (pos (suc n)) = Some (suc n)
above_zero (negsuc n) = None

-- the number of elements by a literal, which has to be an integer above 0
abbrev pub count_of : Literal → Option ℕ
count_of (bool b) = None
count_of (abstract_int n) = above_zero n
count_of (i32 n) = above_zero n
count_of (u32 n) = above_zero (pos n)
count_of (i64 n) = above_zero n
count_of (u64 n) = above_zero (pos n)

-- the value built from the result of parsing, or the refusal
abbrev pub made : {A B : Type 0} → (A → B) → Result A Refusal → Result B Refusal
made make (Ok a) = Ok (make a)
made make (Err e) = Err e

-- One type, or a type and the number of elements. Other parameters are refused with the template's name, a bad number
-- with the message.
abbrev pub element_and_count : List ℕ → List ℕ → List Parameter → Result (WgslType × Option ℕ) Refusal
element_and_count name message (of_type t ∷ []) = Ok (t, None)
element_and_count name message (of_type t ∷ of_literal l ∷ []) = ok_or (option_map (λ n. (t, Some n)) (count_of l)) (builtin message)
element_and_count name message ps = Err (template_args name)

-- `array<f32>` and `array<f32, 4>`; refused: `array<f32, 0>`
abbrev pub array_template : List Parameter → Result WgslType Refusal
array_template ps = made (λ p. array p.1 p.0)
    (element_and_count (codes "array") (codes "the array element count must evaluate to a `u32` or a `i32` greater than `0`") ps)

-- `binding_array<texture_2d<f32>, 4>`
abbrev pub binding_array_template : List Parameter → Result WgslType Refusal
binding_array_template ps = made (λ p. binding_array p.1 p.0)
    (element_and_count (codes "binding_array") (codes "the binding_array element count must evaluate to a `u32` or a `i32` greater than `0`") ps)

-- One type that satisfies P. Other parameters are refused with the template's name, other types with the message.
abbrev pub IsTemplateOf : (WgslType → Type 0) → List ℕ → List ℕ → List Parameter → Result WgslType Refusal → Type 0
IsTemplateOf P name message (of_type t ∷ []) (Ok u) = P t × (u ≡ t)
IsTemplateOf P name message (of_type t ∷ []) (Err e) = (¬ P t) × (e ≡ builtin message)
IsTemplateOf P name message ps r = r ≡ Err (template_args name)

-- `vec3<f32>`; refused: `vec3<AbstractInt>`
abbrev pub IsVecTemplate : List Parameter → Result WgslType Refusal → Type 0
IsVecTemplate = IsTemplateOf (λ t. IsScalar t × ¬ IsAbstract t) (codes "vector") (codes "vector template type must be a scalar")

-- `mat2x3<f16>`; refused: `mat2x3<i32>`
abbrev pub IsMatTemplate : List Parameter → Result WgslType Refusal → Type 0
IsMatTemplate = IsTemplateOf IsFloatScalar (codes "matrix") (codes "matrix template type must be f32 or f16")

-- the scalars that an atomic may have inside
abbrev pub IsAtomicScalar : WgslType → Type 0
IsAtomicScalar (scalar F32) = Unit {0}
IsAtomicScalar (scalar I64) = Unit {0}
IsAtomicScalar (scalar U64) = Unit {0}
IsAtomicScalar (scalar I32) = Unit {0}
IsAtomicScalar (scalar U32) = Unit {0}
IsAtomicScalar t = ⊥

-- `atomic<u32>`; refused: `atomic<bool>`
abbrev pub IsAtomicTemplate : List Parameter → Result WgslType Refusal → Type 0
IsAtomicTemplate = IsTemplateOf IsAtomicScalar (codes "atomic") (codes "atomic template type must be an integer")

-- `bitcast<vec2<f32>>`; refused: `bitcast<bool>`
abbrev pub IsBitcastTemplate : List Parameter → Result WgslType Refusal → Type 0
IsBitcastTemplate =
    IsTemplateOf IsNumericOrVector (codes "bitcast") (codes "bitcast template type must be a numeric scalar or numeric vector")

-- the parameters of a pointer: its address space, its type, and its access mode if there is one
pub record PointerParameters : Type 0 where
  pub space : AddressSpace
  pub ty : WgslType
  pub access : Option AccessMode

-- the access mode, if the parameter is one
abbrev pub access_of : Parameter → Option AccessMode
access_of (of_enumerant (enumerants.AccessMode m)) = Some m
access_of p = None

-- the texel format, if the parameter is one
abbrev pub format_of : Parameter → Option TexelFormat
format_of (of_enumerant (enumerants.TexelFormat f)) = Some f
format_of p = None

-- an address space, a type, and possibly a third parameter, which is ignored unless it is an access mode
abbrev pub pointer_parameters : List Parameter → Option PointerParameters
pointer_parameters (of_enumerant (enumerants.AddressSpace s) ∷ of_type t ∷ []) = Some (record { space = s; ty = t; access = None })
pointer_parameters (of_enumerant (enumerants.AddressSpace s) ∷ of_type t ∷ p ∷ []) = Some (record { space = s; ty = t; access = access_of p })
pointer_parameters ps = None

-- the access mode if there is one, else the default
abbrev pub given_or : Option AccessMode → AccessMode → AccessMode
given_or (Some m) default = m
given_or None default = default

-- the access mode of a pointer in a space, or why there is no such pointer
abbrev pub pointer_access : AddressSpace → Option AccessMode → Result AccessMode Refusal
pointer_access Function m = Ok (given_or m ReadWrite)
pointer_access Private m = Ok (given_or m ReadWrite)
pointer_access Workgroup m = Ok (given_or m ReadWrite)
pointer_access Storage m = Ok (given_or m Read)
pointer_access Uniform None = Ok Read
pointer_access Uniform (Some Read) = Ok Read
pointer_access Uniform (Some m) = Err (builtin (codes "pointer in uniform address space must have a `read` access mode"))
pointer_access Handle m = Err ptr_handle
pointer_access PushConstant m = Err (todo (codes "push_constant"))

-- Checks the number and kinds of the parameters, then that the type is storable, then the space and the access mode.
abbrev pub IsPointerOf : Option PointerParameters → Result WgslType Refusal → Type 0
IsPointerOf None r = r ≡ Err (template_args (codes "pointer"))
IsPointerOf (Some p) r =
    IsStorable p.ty × (r ≡ made (λ m. pointer p.space p.ty m) (pointer_access p.space p.access))
    ⊎ (¬ IsStorable p.ty) × (r ≡ Err (builtin (codes "pointer type must be storable")))

-- `ptr<function, f32>` and `ptr<storage, f32, read_write>`; refused: `ptr<uniform, f32, write>`
abbrev pub IsPtrTemplate : List Parameter → Result WgslType Refusal → Type 0
IsPtrTemplate ps r = IsPointerOf (pointer_parameters ps) r

-- the sampled type of a texture
abbrev pub sampled_parameter : List Parameter → Result SampledType Refusal
sampled_parameter (of_type t ∷ []) = ok_or (sampled_of t) (sampled_type t)
sampled_parameter (p ∷ []) = Err (builtin (codes "texture sampled type must be `i32`, `u32` or `f32`"))
sampled_parameter ps = Err (builtin (codes "sampled texture types take a single template parameter"))

abbrev pub both : Option TexelFormat → Option AccessMode → Result (TexelFormat × AccessMode) Refusal
both (Some f) (Some m) = Ok (f, m)
both f m = Err (builtin (codes "storage texture types take two template parameters"))

-- the texel format and the access mode of a texture
abbrev pub storage_parameters : List Parameter → Result (TexelFormat × AccessMode) Refusal
storage_parameters (p ∷ q ∷ []) = both (format_of p) (access_of q)
storage_parameters ps = both None None

-- the name is that of no texture that has parameters
abbrev pub not_templated : Refusal
not_templated = builtin (codes "not a templated texture type")

-- the parameters of a texture of that name
abbrev pub texture_parameters : TextureParameterKind → List Parameter → Result TextureParameters Refusal
texture_parameters kinds.None ps = Err not_templated
texture_parameters kinds.Sampled ps = made parameters.Sampled (sampled_parameter ps)
texture_parameters kinds.Storage ps = made (λ p. parameters.Storage p.0 p.1) (storage_parameters ps)

-- the texture of that name, if those are its parameters
abbrev texture_made : TextureName → Result TextureParameters Refusal → Result TextureType Refusal
texture_made name (Ok p) = ok_or (texture_with name p) not_templated
texture_made name (Err e) = Err e

abbrev pub texture_of : Option TextureName → List Parameter → Result TextureType Refusal
texture_of (Some name) ps = texture_made name (texture_parameters (parameter_kind name) ps)
texture_of None ps = Err not_templated

-- the texture by its name and its parameters: `texture_2d<f32>`, `texture_storage_2d<rgba8unorm, write>`
abbrev pub texture_template : List ℕ → List Parameter → Result TextureType Refusal
texture_template name ps = texture_of (named (table texture_name_text texture_names) name) ps
