-- Variables (WGSL, "Variable Declarations" and "Address Spaces").
use Rattle.std.specs.Prelude.{Bool, true, false, not, ◌&&◌, Option, Some, None, Result, Ok}
use Rattle.wgsl_syntax.specs.Address.{default_access, may_say}
use Rattle.wgsl_standard.specs.forms.Prelude.{AddressSpace, Function, Private, Workgroup, Uniform, Storage, Handle, PushConstant, AccessMode, ReadWrite, array_of}
use Rattle.wgsl_standard.specs.forms.Prelude.{WgslType, Members, no_members, member, within, struct, reference, binding_array, not_constructible, Operand}
use Rattle.wgsl_standard.specs.forms.Concrete.{concrete_of, has_abstract_type}
use Rattle.wgsl_standard.specs.forms.Convert.{converted}
use Rattle.wgsl_standard.specs.forms.Declare.{is_const_type}
use Rattle.wgsl_standard.specs.forms.Expressions.{is_const_expression}
use Rattle.wgsl_standard.specs.forms.Kinds.{has_fixed_footprint, has_no_array, is_constructible, is_handle, is_host_shareable}
use Rattle.wgsl_standard.specs.forms.Load.{loaded}
use Rattle.wgsl_standard.specs.forms.Questions.{asks, after}
use Rattle.wgsl_standard.specs.forms.Refusals.{Refusal, error, not_const, not_in_space, initialized, access_mode}

-- a type with a fixed footprint, or a runtime-sized array of one
abbrev pub may_end : Bool → WgslType → Bool
may_end atomics (within (array_of None) t) = has_fixed_footprint atomics t
may_end atomics t = has_fixed_footprint atomics t

-- members of such types; the last may be a runtime-sized array
abbrev pub may_end_members : Bool → Members → Bool
may_end_members atomics no_members = true
may_end_members atomics (member name t size align no_members) = may_end atomics t
may_end_members atomics (member name t size align ms) = has_fixed_footprint atomics t && may_end_members atomics ms

-- what ends in a runtime-sized array, or in none: `array<f32>`, `struct { n: u32, d: array<f32> }`, `f32`
abbrev pub ends_in_array : Bool → WgslType → Bool
ends_in_array atomics (struct name ms) = may_end_members atomics ms
ends_in_array atomics t = may_end atomics t

-- the access mode of a variable: the one that it says, if it may, or that of the space. `var<uniform, read> v: f32;` is refused
abbrev pub access_of : AddressSpace → Option AccessMode → Result AccessMode Refusal
access_of s None = Ok (default_access s)
access_of s (Some a) = asks (may_say s a) (access_mode s a) (Ok a)

abbrev pub is_read_write : AccessMode → Bool
is_read_write ReadWrite = true
is_read_write a = false

-- handles, and naga's arrays of them
abbrev pub is_handle_or_array : WgslType → Bool
is_handle_or_array (binding_array n t) = true
is_handle_or_array t = is_handle t

-- what a variable of a space holds
abbrev pub holds : AddressSpace → AccessMode → WgslType → Bool
-- `var v: vec3<f32>;`, `var<private> v: array<bool, 2>;`
holds Function a t = is_const_type t
holds Private a t = is_const_type t
-- `var<workgroup> v: atomic<i32>;`
holds Workgroup a t = has_fixed_footprint true t && not (has_abstract_type t)
-- `var<uniform> v: mat4x4<f32>;`
holds Uniform a t = is_host_shareable t && is_constructible t
-- `var<immediate> v: mat4x4<f32>;`
holds PushConstant a t = is_host_shareable t && is_constructible t && has_no_array t
-- `var<storage> v: array<f32>;`, `var<storage, read_write> v: array<atomic<u32>>;`
holds Storage a t = is_host_shareable t && ends_in_array (is_read_write a) t
-- `var v: sampler;`
holds Handle a t = is_handle_or_array t

-- why a variable doesn't hold a type
abbrev pub not_held : AddressSpace → WgslType → Refusal
not_held Function t = error (not_constructible t)
not_held Private t = error (not_constructible t)
not_held s t = not_in_space s t

-- `var<storage> v: f32;` : ref<storage, f32, read>. `var<uniform> v: bool;` is refused, and so is `var<immediate> v: array<f32, 2>;`
abbrev pub variable_in : AddressSpace → WgslType → AccessMode → Result WgslType Refusal
variable_in s t a = asks (holds s a t) (not_held s t) (Ok (reference s t a))

-- The type of the name of a variable.
abbrev pub variable : AddressSpace → Option AccessMode → WgslType → Result WgslType Refusal
variable s a t = after (access_of s a) (variable_in s t)

-- `var<workgroup> v = 1;` is refused
abbrev pub has_initializer : AddressSpace → Bool
has_initializer Function = true
has_initializer Private = true
has_initializer s = false

-- `var<private> v = i;`, where `i` is no const-expression, is refused
abbrev pub may_initialize : AddressSpace → Operand → Bool
may_initialize Private x = is_const_expression x
may_initialize s x = true

-- the store type of a variable with a value, in the spaces where it may have one
abbrev pub stored : WgslType → Option WgslType → Result WgslType Refusal
-- `var v = 1;` : i32
stored x None = after (loaded x) (λ v. asks (is_constructible v) (error (not_constructible (concrete_of v))) (Ok (concrete_of v)))
-- `var v: f32 = 1;` : f32. `var v: u32 = 1i;` is refused
stored x (Some t) = asks (is_const_type t) (error (not_constructible t)) (after (loaded x) (λ v. converted v t))

-- `var<private> v = 1;` : ref<private, i32, read_write>
abbrev pub initialized_in : AddressSpace → Operand → Option WgslType → AccessMode → Result WgslType Refusal
initialized_in s x t a =
    asks (has_initializer s) (initialized s) (asks (may_initialize s x) not_const
    (after (stored x.of_type t) (λ t. Ok (reference s t a))))

-- The type of the name of a variable with a value.
abbrev pub initialized_variable : AddressSpace → Option AccessMode → Operand → Option WgslType → Result WgslType Refusal
initialized_variable s a x t = after (access_of s a) (initialized_in s x t)
