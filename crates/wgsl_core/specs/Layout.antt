-- How the rules see a layout of the code.
use Rattle.std.specs.Prelude.{ℕ, List, map}
use Rattle.wgsl_syntax.specs.declared.rules.RuleSet.{RuleSet}
use Rattle.wgsl_syntax.specs.declared.rules.RuleSet.TheVariants.{Ported}
use Rattle.wgsl_rules.specs.types.Types.{Members}
use Rattle.wgsl_rules.specs.layout.Placement.{MemberLayout}
use Rattle.wgsl_rules.specs.layout.Layout.{IsStructLayoutBy}
use Rattle.wgsl_core.specs.declared.layout.PlacedMember.{PlacedMember}
use Rattle.wgsl_core.specs.declared.layout.StructLayout.{StructLayout}

-- the size and the alignment of each member
abbrev pub layouts_of : List PlacedMember → List MemberLayout
layouts_of members = map (λ m. record { size = m.size; align = m.align }) members

abbrev pub offsets_of : List PlacedMember → List ℕ
offsets_of members = map (λ m. m.offset) members

-- the layout of a struct with these members
abbrev pub IsLayoutOfBy : RuleSet → Members → StructLayout → Type 0
IsLayoutOfBy rules ms l = IsStructLayoutBy rules ms (layouts_of l.members.items) (offsets_of l.members.items) l.size l.align

abbrev pub IsLayoutOf : Members → StructLayout → Type 0
IsLayoutOf = IsLayoutOfBy Ported
