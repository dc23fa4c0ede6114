-- Types with a fixed footprint, constructible types, handles, and types that can be shared with the host (WGSL,
-- "Fixed-Footprint Types", "Constructible Types" and "Host-shareable Types").
use Rattle.std.specs.Prelude.{Bool, true, false, ◌&&◌, None}
use Rattle.wgsl_standard.specs.forms.Prelude.{Scalar, array_of, WgslType, Members, no_members, member, scalar, within, struct, atomic, texture, sampler}
use Rattle.wgsl_syntax.specs.declared.scalar.Scalar.TheVariants as scalars

-- A scalar, a vector, a matrix, an array with a count or a struct, of such types, and perhaps atomics.
abbrev mutual
  pub has_fixed_footprint : Bool → WgslType → Bool
  has_fixed_footprint atomics (scalar s) = true
  has_fixed_footprint atomics (within (array_of None) t) = false
  has_fixed_footprint atomics (within l t) = has_fixed_footprint atomics t
  has_fixed_footprint atomics (struct name ms) = have_fixed_footprint atomics ms
  has_fixed_footprint atomics (atomic t) = atomics
  has_fixed_footprint atomics t = false

  pub have_fixed_footprint : Bool → Members → Bool
  have_fixed_footprint atomics no_members = true
  have_fixed_footprint atomics (member name t size align ms) = has_fixed_footprint atomics t && have_fixed_footprint atomics ms

-- Values of the type can be made: it has a fixed footprint, and no atomic inside. It may be abstract.
abbrev pub is_constructible : WgslType → Bool
is_constructible t = has_fixed_footprint false t

-- a texture or a sampler
abbrev pub is_handle : WgslType → Bool
is_handle (texture x) = true
is_handle (sampler s) = true
is_handle t = false

-- a concrete number
abbrev pub is_concrete_number : Scalar → Bool
is_concrete_number scalars.Bool = false
is_concrete_number scalars.AbstractInt = false
is_concrete_number scalars.AbstractFloat = false
is_concrete_number s = true

-- A concrete number, or an atomic, a vector, a matrix, an array or a struct of such types; no `bool` inside.
abbrev mutual
  pub is_host_shareable : WgslType → Bool
  is_host_shareable (scalar s) = is_concrete_number s
  is_host_shareable (within l t) = is_host_shareable t
  is_host_shareable (struct name ms) = are_host_shareable ms
  is_host_shareable (atomic t) = is_host_shareable t
  is_host_shareable t = false

  pub are_host_shareable : Members → Bool
  are_host_shareable no_members = true
  are_host_shareable (member name t size align ms) = is_host_shareable t && are_host_shareable ms

-- The type is no array, and no struct with one inside.
abbrev mutual
  pub has_no_array : WgslType → Bool
  has_no_array (within (array_of n) t) = false
  has_no_array (struct name ms) = have_no_array ms
  has_no_array t = true

  pub have_no_array : Members → Bool
  have_no_array no_members = true
  have_no_array (member name t size align ms) = has_no_array t && have_no_array ms
