-- The layout of a struct of a module (WGSL, "Structure Member Layout").
use Rattle.std.specs.Prelude.{ℕ, List, map}
use Rattle.wgsl_syntax.specs.declared.rules.RuleSet.TheVariants.{Standard}
use Rattle.wgsl_rules.specs.types.Types.{Members}
use Rattle.wgsl_rules.specs.layout.Placement.{MemberLayout}
use Rattle.wgsl_rules.specs.layout.Layout.{HasNoSizeBy, HaveLayoutsBy, IsStructLayoutBy}
use Rattle.wgsl_source.specs.declared.structure.Member.{Member}

-- the size and the alignment of each member
abbrev pub layouts_of : List Member → List MemberLayout
layouts_of members = map (λ m. record { size = m.size; align = m.align }) members

abbrev pub offsets_of : List Member → List ℕ
offsets_of members = map (λ m. m.offset) members

-- these are the offsets, the size and the alignment of each struct whose members have these sizes and alignments, by
-- WGSL's own rules
abbrev pub IsLaidOut : List Member → ℕ → ℕ → Type 0
IsLaidOut members size align =
    (ms : Members) → HaveLayoutsBy Standard ms (layouts_of members) → IsStructLayoutBy Standard ms (layouts_of members) (offsets_of members) size align

-- a struct whose members have these sizes and alignments has no size: it has no member, is too large, or an alignment is 0
abbrev pub HasNoLayout : List Member → Type 0
HasNoLayout members = (ms : Members) → HaveLayoutsBy Standard ms (layouts_of members) → HasNoSizeBy Standard ms
