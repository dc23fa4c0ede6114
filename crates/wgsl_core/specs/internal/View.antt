-- How the rules see the members of a struct.
use Rattle.std.specs.Prelude.{List, map}
use Rattle.wgsl_rules.specs.types.Types.{Members}
use Rattle.wgsl_core.specs.declared.ty.StructMemberType.{StructMemberType}
use Rattle.wgsl_core.specs.View.{members_of, member_view}

abbrev pub members_view : List StructMemberType → Members
members_view ms = members_of (map member_view ms)
