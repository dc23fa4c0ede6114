-- What an address space asks of the layout of its variables (WGSL, "Address Space Layout Constraints").
use Rattle.std.specs.Prelude.{ℕ, ◌+◌, ◌≤◌, IsTrue, Option, Some, None}
use Rattle.std.specs.Int.{◌∣◌, is_power_of_two, next_multiple_of}
use Rattle.wgsl_syntax.specs.declared.address.AddressSpace.{AddressSpace}
use Rattle.wgsl_syntax.specs.declared.address.AddressSpace.TheVariants.{Uniform, Storage, Workgroup, PushConstant}
use Rattle.wgsl_syntax.specs.declared.address.AccessMode.{AccessMode}
use Rattle.wgsl_syntax.specs.declared.address.AccessMode.TheVariants.{ReadWrite}
use Rattle.wgsl_report.specs.declared.spaces.layout.Extent.{Extent}
use Rattle.wgsl_report.specs.declared.spaces.layout.Shape.{Shape}
use Rattle.wgsl_report.specs.declared.spaces.layout.Shape.TheVariants.{Array, Struct}
use Rattle.wgsl_report.specs.declared.spaces.layout.Position.{Position}
use Rattle.wgsl_report.specs.declared.spaces.layout.Rule.{Rule}
use Rattle.wgsl_report.specs.declared.spaces.layout.Rule.TheVariants.{Offset, Behind, Align, Size}
use Rattle.wgsl_report.specs.declared.spaces.content.Content.{Content}
use Rattle.wgsl_report.specs.declared.spaces.content.Content.TheVariants.{Bool, Atomic, Other}

abbrev pub up_to_16 : ℕ → ℕ
up_to_16 n = next_multiple_of n 16

-- the alignment that a type must have: in `uniform`, arrays and structs need a multiple of 16
abbrev pub required_align : AddressSpace → Shape → ℕ → ℕ
required_align Uniform Array align = up_to_16 align
required_align Uniform Struct align = up_to_16 align
required_align space shape align = align

-- a number is a multiple of the alignment that a type must have
abbrev pub IsAligned : AddressSpace → Extent → ℕ → Type 0
IsAligned space t n = required_align space t.shape t.align ∣ n

-- in `uniform`, the elements of an array are multiples of 16 bytes apart
abbrev pub AreApart : AddressSpace → ℕ → Type 0
AreApart Uniform stride = 16 ∣ stride
AreApart space stride = Unit {0}

-- the elements of an array may lie that far apart
abbrev pub LieApart : AddressSpace → Extent → ℕ → Type 0
LieApart space t stride = IsAligned space t stride × AreApart space stride

-- In `uniform`, no member begins before the end of the struct before it, rounded up to a multiple of 16.
abbrev pub IsBehind : AddressSpace → Shape → ℕ → ℕ → Option ℕ → Type 0
IsBehind Uniform Struct size offset (Some next) = offset + up_to_16 size ≤ next
IsBehind space shape size offset next = Unit {0}

-- `@align` is a power of two and a multiple of what the type must have
abbrev pub IsAlignAttribute : AddressSpace → Extent → Option ℕ → Type 0
IsAlignAttribute space t None = Unit {0}
IsAlignAttribute space t (Some a) = IsTrue (is_power_of_two a) × IsAligned space t a

-- `@size` is no less than the type's size
abbrev pub IsSizeAttribute : Extent → Option ℕ → Type 0
IsSizeAttribute t None = Unit {0}
IsSizeAttribute t (Some s) = t.size ≤ s

-- what is asked of a member of a struct
pub record MayLie (space : AddressSpace) (m : Position) : Type 0 where
  pub aligned : IsAligned space m.extent m.offset
  pub behind : IsBehind space m.extent.shape m.extent.size m.offset m.next
  pub align_attribute : IsAlignAttribute space m.extent m.align
  pub size_attribute : IsSizeAttribute m.extent m.size

-- a rule that isn't kept
abbrev pub Breaks : Rule → AddressSpace → Position → Type 0
Breaks Offset space m = ¬ IsAligned space m.extent m.offset
Breaks Behind space m = ¬ IsBehind space m.extent.shape m.extent.size m.offset m.next
Breaks Align space m = ¬ IsAlignAttribute space m.extent m.align
Breaks Size space m = ¬ IsSizeAttribute m.extent m.size

-- `requires uniform_buffer_standard_layout;` gives `uniform` the rules of `storage`: a rule that `storage` doesn't break is lifted
abbrev pub IsLifted : Rule → Position → Type 0
IsLifted rule m = ¬ Breaks rule Storage m

-- memory that is shared with the host
abbrev pub IsShared : AddressSpace → Type 0
IsShared Uniform = Unit {0}
IsShared Storage = Unit {0}
IsShared PushConstant = Unit {0}
IsShared space = ⊥

-- atomics stand in `workgroup`, and in `storage` that can be read and written
abbrev pub TakesAtomics : AddressSpace → AccessMode → Type 0
TakesAtomics Workgroup access = Unit {0}
TakesAtomics Storage ReadWrite = Unit {0}
TakesAtomics space access = ⊥

-- no array stands in `immediate`: `var<immediate> x: array<u32, 2>;`, `struct S { a: array<u32, 2> } var<immediate> x: S;`
abbrev pub MayHold : AddressSpace → Shape → Type 0
MayHold PushConstant Array = ⊥
MayHold space shape = Unit {0}

-- what may be innermost: no `bool` where memory is shared, and atomics only where they stand
abbrev pub MayBeInnermost : AddressSpace → AccessMode → Content → Type 0
MayBeInnermost space access Bool = ¬ IsShared space
MayBeInnermost space access Atomic = TakesAtomics space access
MayBeInnermost space access Other = Unit {0}
