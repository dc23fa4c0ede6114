-- The size and the alignment of a member, from its attributes or its type (WGSL, "Structure Member Layout").
use Rattle.std.specs.Prelude.{◌≡◌, ℕ, ◌++◌, ◌↔◌, IsSome, List, [], ◌∷◌, Option, Some, None, if◌then◌else◌, map, slice_get}
use Rattle.std.specs.List.{All}
use Rattle.wgsl_rules.specs.layout.Layout.{IsGiven}
use Rattle.wgsl_core.specs.Placing.{IsValue}
use Rattle.wgsl_source.specs.Measures.{IsStrideOf}
use Rattle.wgsl_source.specs.declared.measured.Count.TheVariants.{Runtime}
use Rattle.wgsl_source.specs.declared.measured.MeasuredType.{MeasuredType}
use Rattle.wgsl_source.specs.declared.measured.TypeKind.{TypeKind}
use Rattle.wgsl_source.specs.declared.measured.TypeKind.TheVariants.{Array}
use Rattle.wgsl_source.specs.declared.measured.TypeKind.TheVariants as kind
use Rattle.wgsl_source.specs.declared.structure.Draft.{Draft}
use Rattle.wgsl_source.specs.declared.structure.Member.{Member}
use Rattle.wgsl_source.specs.declared.structure.Struct.{Struct}
use Rattle.wgsl_source.specs.declared.structure.Written.{Written}
use Rattle.wgsl_source.specs.declared.types.Types.{Types}

-- `array<f32>`
abbrev pub IsRuntimeSizedArray : TypeKind → Type 0
IsRuntimeSizedArray (Array index Runtime) = Unit {0}
IsRuntimeSizedArray kind = ⊥

-- the last member is a runtime-sized array
abbrev pub EndsRuntimeSized : List Member → Type 0
EndsRuntimeSized [] = ⊥
EndsRuntimeSized (m ∷ []) = IsRuntimeSizedArray m.ty.kind
EndsRuntimeSized (m ∷ n ∷ ms) = EndsRuntimeSized (n ∷ ms)

-- `array<f32>` counts with one element, its stride; any other type has its own size
abbrev pub IsSizeOfKind : List MeasuredType → TypeKind → Option ℕ → ℕ → Type 0
IsSizeOfKind elements (Array index Runtime) size n = (element : MeasuredType) × (slice_get elements index ≡ Some element) × IsStrideOf element n
IsSizeOfKind elements kind size n = IsValue size n

-- the size that a type has as a member, among the element types of its module
abbrev pub IsLeastSize : List MeasuredType → MeasuredType → ℕ → Type 0
IsLeastSize elements t = IsSizeOfKind elements t.kind t.size

-- a member has the size and the alignment of its attributes, or else of its type: `@size(32) a: vec3f` 32 bytes and the alignment 16
pub record IsMeasuredMember (elements : List MeasuredType) (m : Member) : Type 0 where
  pub size : IsGiven m.size_attribute (IsLeastSize elements m.ty) m.size
  pub align : IsGiven m.align_attribute (IsValue m.ty.align) m.align

abbrev pub members_of : List Written → List Member
members_of written = map (λ w. w.member) written

abbrev pub AreMeasured : List MeasuredType → List Member → Type 0
AreMeasured elements members = All (IsMeasuredMember elements) members

abbrev pub without_offset : Member → Member
without_offset m = record m { offset = 0 }

-- the same members in the same order, perhaps at other offsets
abbrev pub AreSameMembers : List Member → List Member → Type 0
AreSameMembers members others = map without_offset members ≡ map without_offset others

-- the type of a struct: its size is None if the struct ends in a runtime-sized array
pub record IsTypeOf (struct : Struct) (index : ℕ) (t : MeasuredType) : Type 0 where
  pub kind : t.kind ≡ kind.Struct index
  pub size : t.size ≡ (if struct.is_runtime_sized then None else Some struct.size)
  pub align : t.align ≡ Some struct.align

-- the members that are read so far have their sizes and alignments, and it is noted whether the last one is a runtime-sized array
pub record IsDraft (elements : List MeasuredType) (draft : Draft) : Type 0 where
  pub measured : AreMeasured elements (members_of draft.members.items)
  pub runtime_sized : IsSome draft.runtime_sized ↔ EndsRuntimeSized (members_of draft.members.items)

-- element types are only added, behind those that are there
pub record Grows (old new : Types) : Type 0 where
  pub added : List MeasuredType
  pub kept : new.elements.items ≡ old.elements.items ++ added
