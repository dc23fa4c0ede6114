-- What the rules of address spaces see of a type of a module (WGSL, "Address Space Layout Constraints").
use Rattle.std.specs.Prelude.{◌≡◌, ℕ, List, [], ◌∷◌, ◌++◌, Option, Some, None, slice_get, take, All, unwrap_or}
use Rattle.wgsl_syntax.specs.declared.address.AddressSpace.{AddressSpace}
use Rattle.wgsl_syntax.specs.declared.scalar.Scalar.TheVariants.{Bool}
use Rattle.wgsl_source.specs.declared.measured.MeasuredType.{MeasuredType}
use Rattle.wgsl_source.specs.declared.measured.TypeKind.{TypeKind}
use Rattle.wgsl_source.specs.declared.measured.TypeKind.TheVariants.{Scalar, Vector, Atomic, Array, Struct}
use Rattle.wgsl_source.specs.declared.measured.Count.TheVariants.{Runtime}
use Rattle.wgsl_source.specs.declared.structure.Member.{Member}
use Rattle.wgsl_source.specs.Measures.{IsStrideOf}
use Rattle.wgsl_report.specs.declared.spaces.layout.Extent.{Extent}
use Rattle.wgsl_report.specs.declared.spaces.layout.Shape.{Shape}
use Rattle.wgsl_report.specs.declared.spaces.layout.Shape.TheVariants as shape
use Rattle.wgsl_report.specs.declared.spaces.layout.Position.{Position}
use Rattle.wgsl_report.specs.declared.spaces.content.Content.{Content}
use Rattle.wgsl_report.specs.declared.spaces.content.Content.TheVariants as content
use Rattle.wgsl_report.specs.spaces.Spaces.{LieApart}

-- arrays and structs have rules of their own
abbrev pub shape_of : TypeKind → Shape
shape_of (Array index count) = shape.Array
shape_of (Struct index) = shape.Struct
shape_of kind = shape.Other

-- A type without a fixed footprint has no size and counts as 0 bytes: it ends its struct, and has no `@size`.
abbrev pub extent_of : MeasuredType → Extent
extent_of t = record { shape = shape_of t.kind; size = unwrap_or t.size 0; align = unwrap_or t.align 1 }

-- a member of a struct, with the offset of the next one
abbrev pub position_of : Member → Option ℕ → Position
position_of m next = record { extent = extent_of m.ty; size = m.size_attribute; align = m.align_attribute; offset = m.offset; next = next }

-- `bool` and `vec3<bool>`, which are not host-shareable, and `atomic<u32>`
abbrev pub content_of : TypeKind → Content
content_of (Scalar Bool) = content.Bool
content_of (Vector n Bool) = content.Bool
content_of (Atomic s) = content.Atomic
content_of kind = content.Other

-- `array<f32>`, or a struct without a size: one that ends in such an array
abbrev pub IsRuntimeSized : TypeKind → Option ℕ → Type 0
IsRuntimeSized (Array index Runtime) size = Unit {0}
IsRuntimeSized (Struct index) None = Unit {0}
IsRuntimeSized kind size = ⊥

-- the place of an array's element type among the elements of the module
abbrev pub element_index : TypeKind → Option ℕ
element_index (Array index count) = Some index
element_index kind = None

-- In a type stand these, each as the element type of the one before it: in `array<array<f32, 2>, 3>` `array<f32, 2>` and `f32`.
-- Among the elements of a module a type stands behind those in it.
abbrev pub AreNested : List MeasuredType → MeasuredType → List MeasuredType → Type 0
AreNested elements t [] = Unit {0}
AreNested elements t (e ∷ es) = (index : ℕ) × (element_index t.kind ≡ Some index) × (slice_get elements index ≡ Some e) × AreNested (take index elements) e es

-- the last of them, or the type itself
abbrev pub last_of : MeasuredType → List MeasuredType → MeasuredType
last_of t [] = t
last_of t (e ∷ es) = last_of e es

-- the type inside all arrays: in `array<array<f32, 2>, 3>` `f32`
abbrev pub IsInnermost : List MeasuredType → MeasuredType → MeasuredType → Type 0
IsInnermost elements t inner = (es : List MeasuredType) × AreNested elements t es × (inner ≡ last_of t es) × (element_index inner.kind ≡ None)

-- such elements have this stride, and an address space asks for more
abbrev pub IsTooClose : AddressSpace → MeasuredType → ℕ → Type 0
IsTooClose space e stride = IsStrideOf e stride × ¬ LieApart space (extent_of e) stride

-- the stride of the outermost elements that lie too close
abbrev pub IsOutermostTooClose : AddressSpace → List MeasuredType → MeasuredType → ℕ → Type 0
IsOutermostTooClose space elements t stride = (outer : List MeasuredType) × (e : MeasuredType) × AreNested elements t (outer ++ e ∷ [])
    × All (λ o. (n : ℕ) → ¬ IsTooClose space o n) outer × IsTooClose space e stride
