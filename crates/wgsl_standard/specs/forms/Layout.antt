-- The smallest layout of a struct that may end in a runtime-sized array (WGSL, "Minimum Binding Size").
use Rattle.std.specs.Prelude.{Some, None}
use Rattle.wgsl_rules.specs.types.Types.{WgslType, Members, no_members, member, array}

-- a runtime-sized array counts as an array of one element
abbrev pub with_one_element : WgslType → WgslType
with_one_element (array None t) = array (Some 1) t
with_one_element t = t

-- the members of the smallest such struct: only the last may be a runtime-sized array
abbrev pub smallest_members : Members → Members
smallest_members no_members = no_members
smallest_members (member name t size align no_members) = member name (with_one_element t) size align no_members
smallest_members (member name t size align ms) = member name t size align (smallest_members ms)
