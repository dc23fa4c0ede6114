-- The size and the alignment of a type of a module, from its scalar or from its element (WGSL, "Alignment and Size").
use Rattle.std.specs.Prelude.{◌≡◌, ℕ, List, Option, Some, None, slice_get}
use Rattle.wgsl_syntax.specs.declared.rules.RuleSet.TheVariants.{Standard}
use Rattle.wgsl_rules.specs.types.Types.{WgslType}
use Rattle.wgsl_rules.specs.layout.Layout.{HasAlignmentBy, HasSizeBy, IsArraySize, IsExactly, IsStride}
use Rattle.wgsl_core.specs.Placing.{IsValue}
use Rattle.wgsl_source.specs.declared.measured.Count.{Count}
use Rattle.wgsl_source.specs.declared.measured.Count.TheVariants.{Known, Runtime, Override}
use Rattle.wgsl_source.specs.declared.measured.MeasuredType.{MeasuredType}
use Rattle.wgsl_source.specs.declared.measured.TypeKind.TheVariants as kind

-- this size and this alignment, each None exactly if there is none
pub record IsMeasure (IsSize IsAlign : ℕ → Type 0) (m : MeasuredType) : Type 0 where
  pub size : IsExactly m.size IsSize
  pub align : IsExactly m.align IsAlign

-- the size and the alignment of this type by WGSL's own rules
abbrev pub IsMeasureOf : WgslType → MeasuredType → Type 0
IsMeasureOf t = IsMeasure (HasSizeBy Standard t) (HasAlignmentBy Standard t)

-- the number of elements that an array is known to have
abbrev pub known_count : Count → Option ℕ
known_count (Known n) = Some n
known_count Runtime = None
known_count Override = None

-- the stride of an array of such elements
abbrev pub IsStrideOf : MeasuredType → ℕ → Type 0
IsStrideOf element = IsStride (IsValue element.size) (IsValue element.align)

-- an array of that many elements, whose type is among those of the module at the array's index
pub record IsArrayAmong (elements : List MeasuredType) (element : MeasuredType) (count : Count) (t : MeasuredType) : Type 0 where
  pub index : ℕ
  pub kind : t.kind ≡ kind.Array index count
  pub there : slice_get elements index ≡ Some element
  pub measure : IsMeasure (IsArraySize (known_count count) (IsStrideOf element)) (IsValue element.align) t
