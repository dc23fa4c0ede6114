-- The size and the alignment of a type, in bytes, each below 2 ^ 32 or missing (WGSL, "Alignment and Size"). The two sets of
-- rules differ in the alignment of a vector of three alone. A name without `By` is of the ported rules.
use Rattle.std.specs.Prelude.{◌≡◌, ◌≢◌, ℕ, ◌*◌, ◌<◌, ◌≤◌, ◌^◌, ◌⊎◌, ◌↔◌, List, [], ◌∷◌, Option, Some, None, length, slice_index}
use Rattle.std.specs.Int.{◌∣◌}
use Rattle.std.specs.List.{All}
use Rattle.wgsl_syntax.specs.declared.rules.RuleSet.{RuleSet}
use Rattle.wgsl_syntax.specs.declared.rules.RuleSet.TheVariants.{Ported, Standard}
use Rattle.wgsl_syntax.specs.declared.scalar.Scalar.{Scalar}
use Rattle.wgsl_syntax.specs.declared.scalar.Scalar.TheVariants.{Bool, AbstractInt, AbstractFloat, I32, U32, F32, F16, I64, U64, F64}
use Rattle.wgsl_rules.specs.types.Types.{WgslType, scalar, struct, atomic, Members, no_members, member, array, vec, mat}
use Rattle.wgsl_rules.specs.layout.Placement.{MemberLayout, IsPlacement, IsLeastTotal, greatest}

-- the size of a scalar, which is also its alignment
abbrev pub IsScalarSize : Scalar → ℕ → Type 0
IsScalarSize Bool n = n ≡ 4
IsScalarSize AbstractInt n = ⊥
IsScalarSize AbstractFloat n = ⊥
IsScalarSize I32 n = n ≡ 4
IsScalarSize U32 n = n ≡ 4
IsScalarSize F32 n = n ≡ 4
IsScalarSize F16 n = n ≡ 2
IsScalarSize I64 n = n ≡ 8
IsScalarSize U64 n = n ≡ 8
IsScalarSize F64 n = n ≡ 8

-- the size of an atomic type, which is also its alignment
abbrev pub IsAtomicSize : WgslType → ℕ → Type 0
IsAtomicSize (scalar I64) n = n ≡ 8
IsAtomicSize (scalar U64) n = n ≡ 8
IsAtomicSize t n = n ≡ 4

-- k times a size
abbrev pub IsTimes : ℕ → (ℕ → Type 0) → ℕ → Type 0
IsTimes k IsSize n = (s : ℕ) × IsSize s × (n ≡ k * s) × (n < 2 ^ 32)

-- the least multiple of a that isn't below s
abbrev pub IsRoundedUp : ℕ → ℕ → ℕ → Type 0
IsRoundedUp s a n = (0 < a) × (a ∣ n) × (s ≤ n) × ((m : ℕ) → a ∣ m → s ≤ m → n ≤ m)

-- the stride of an array: the size of its elements, rounded up to their alignment
abbrev pub IsStride : (ℕ → Type 0) → (ℕ → Type 0) → ℕ → Type 0
IsStride IsSize IsAlign n = (s : ℕ) × (a : ℕ) × IsSize s × IsAlign a × IsRoundedUp s a n × (n < 2 ^ 32)

-- the size of an array; a runtime-sized array has none
abbrev pub IsArraySize : Option ℕ → (ℕ → Type 0) → ℕ → Type 0
IsArraySize (Some k) IsSpaced n = (k < 2 ^ 32) × IsTimes k IsSpaced n
IsArraySize None IsSpaced n = ⊥

-- the alignment of a vector of three: by WGSL's own rules four times the size of a component
abbrev pub IsAlignOfThreeBy : RuleSet → WgslType → (ℕ → Type 0) → ℕ → Type 0
IsAlignOfThreeBy Ported (scalar I32) IsSize a = a ≡ 16
IsAlignOfThreeBy Ported (scalar U32) IsSize a = a ≡ 16
IsAlignOfThreeBy Ported (scalar F32) IsSize a = a ≡ 16
IsAlignOfThreeBy Ported (scalar F16) IsSize a = a ≡ 8
IsAlignOfThreeBy Ported t IsSize a = ⊥
-- `vec3<f64>` : 32, `vec3<bool>` : 16
IsAlignOfThreeBy Standard t IsSize a = IsTimes 4 IsSize a

-- the alignment of a vector: its size, except for three components
abbrev pub IsVectorAlignBy : RuleSet → ℕ → WgslType → (ℕ → Type 0) → ℕ → Type 0
IsVectorAlignBy rules k t IsSize a = ((k ≡ 3) × IsAlignOfThreeBy rules t IsSize a) ⊎ ((k ≢ 3) × IsTimes k IsSize a)

-- the attribute if there is one, else the value of the type
abbrev pub IsGiven : Option ℕ → (ℕ → Type 0) → ℕ → Type 0
IsGiven (Some x) OfType n = n ≡ x
IsGiven None OfType n = OfType n

-- the size of a struct: the smallest that any placement of its members has
pub record IsStructSize (AreLayouts : List MemberLayout → Type 0) (size : ℕ) : Type 0 where
  pub layouts : List MemberLayout
  pub known : AreLayouts layouts
  pub some_member : 0 < length layouts
  pub aligned : All (λ layout. 0 < layout.align) layouts
  pub least : IsLeastTotal layouts size
  pub fits : size < 2 ^ 32

-- the alignment of a struct: the greatest of its members' alignments, 0 without members
abbrev pub IsStructAlign : (List ℕ → Type 0) → ℕ → Type 0
IsStructAlign AreAligns a = (aligns : List ℕ) × AreAligns aligns × (a ≡ greatest aligns)

abbrev mutual
  pub HasSizeBy : RuleSet → WgslType → ℕ → Type 0
  HasSizeBy rules (scalar s) n = IsScalarSize s n
  HasSizeBy rules (vec k t) n = IsTimes k (HasSizeBy rules t) n
  HasSizeBy rules (mat c r t) n = IsTimes c (IsVectorAlignBy rules r t (HasSizeBy rules t)) n
  HasSizeBy rules (array k t) n = IsArraySize k (IsStride (HasSizeBy rules t) (HasAlignmentBy rules t)) n
  HasSizeBy rules (atomic t) n = IsAtomicSize t n
  HasSizeBy rules (struct name ms) n = IsStructSize (HaveLayoutsBy rules ms) n
  HasSizeBy rules t n = ⊥

  pub HasAlignmentBy : RuleSet → WgslType → ℕ → Type 0
  HasAlignmentBy rules (scalar s) a = IsScalarSize s a
  HasAlignmentBy rules (vec k t) a = IsVectorAlignBy rules k t (HasSizeBy rules t) a
  HasAlignmentBy rules (mat c r t) a = IsVectorAlignBy rules r t (HasSizeBy rules t) a
  HasAlignmentBy rules (array k t) a = HasAlignmentBy rules t a
  HasAlignmentBy rules (atomic t) a = IsAtomicSize t a
  HasAlignmentBy rules (struct name ms) a = IsStructAlign (HaveAlignmentsBy rules ms) a
  HasAlignmentBy rules t a = ⊥

  -- the members have these sizes and alignments
  pub HaveLayoutsBy : RuleSet → Members → List MemberLayout → Type 0
  HaveLayoutsBy rules no_members [] = Unit {0}
  HaveLayoutsBy rules (member name t size align ms) (layout ∷ layouts) =
      IsGiven size (HasSizeBy rules t) layout.size × IsGiven align (HasAlignmentBy rules t) layout.align × HaveLayoutsBy rules ms layouts
  HaveLayoutsBy rules ms layouts = ⊥

  pub HaveAlignmentsBy : RuleSet → Members → List ℕ → Type 0
  HaveAlignmentsBy rules no_members [] = Unit {0}
  HaveAlignmentsBy rules (member name t size align ms) (a ∷ aligns) = IsGiven align (HasAlignmentBy rules t) a × HaveAlignmentsBy rules ms aligns
  HaveAlignmentsBy rules ms aligns = ⊥

-- the answer is Some n exactly if n is the value, and None exactly if there is no value
abbrev pub IsExactly : Option ℕ → (ℕ → Type 0) → Type 0
IsExactly answer IsIt = (n : ℕ) → (answer ≡ Some n) ↔ IsIt n

-- some member has no size, or no alignment
abbrev pub SomeUnknownBy : RuleSet → Members → Type 0
SomeUnknownBy rules no_members = ⊥
SomeUnknownBy rules (member name t size align ms) =
    ((n : ℕ) → ¬ (IsGiven size (HasSizeBy rules t) n)) ⊎ (((a : ℕ) → ¬ (IsGiven align (HasAlignmentBy rules t) a)) ⊎ SomeUnknownBy rules ms)

-- some member has the alignment 0
abbrev pub SomeZeroAlignBy : RuleSet → Members → Type 0
SomeZeroAlignBy rules no_members = ⊥
SomeZeroAlignBy rules (member name t size align ms) = IsGiven align (HasAlignmentBy rules t) 0 ⊎ SomeZeroAlignBy rules ms

-- the four causes for which a struct has no size
pub data HasNoSizeBy (rules : RuleSet) (ms : Members) : Type 0 where
  unknown : SomeUnknownBy rules ms → HasNoSizeBy rules ms
  zero_align : SomeZeroAlignBy rules ms → HasNoSizeBy rules ms
  empty : ms ≡ no_members → HasNoSizeBy rules ms
  too_large : ((layouts : List MemberLayout) (offsets : List ℕ) (total : ℕ) → HaveLayoutsBy rules ms layouts → IsPlacement layouts offsets total → 2 ^ 32 ≤ total) → HasNoSizeBy rules ms

-- the type has no size: a struct for one of the four causes
abbrev pub LacksSizeBy : RuleSet → WgslType → Type 0
LacksSizeBy rules (struct name ms) = HasNoSizeBy rules ms
LacksSizeBy rules t = (n : ℕ) → ¬ (HasSizeBy rules t n)

-- the offsets and the struct's size are a placement, and no placement has a smaller offset for any member
pub record AreOffsetsBy (rules : RuleSet) (ms : Members) (offsets : List ℕ) : Type 0 where
  pub total : ℕ
  pub sized : IsStructSize (HaveLayoutsBy rules ms) total
  pub placed : IsPlacement sized.layouts offsets total
  pub least : (others : List ℕ) (more : ℕ) → IsPlacement sized.layouts others more → (k : ℕ) → slice_index offsets k ≤ slice_index others k

-- a struct's layout: the sizes and alignments of its members, their offsets, and its own size and alignment
pub record IsStructLayoutBy (rules : RuleSet) (ms : Members) (layouts : List MemberLayout) (offsets : List ℕ) (size align : ℕ) : Type 0 where
  pub members : HaveLayoutsBy rules ms layouts
  pub placed : AreOffsetsBy rules ms offsets
  pub sized : IsStructSize (HaveLayoutsBy rules ms) size
  pub aligned : IsStructAlign (HaveAlignmentsBy rules ms) align

-- By the ported rules

abbrev pub HasSize : WgslType → ℕ → Type 0
HasSize = HasSizeBy Ported

abbrev pub HasAlignment : WgslType → ℕ → Type 0
HasAlignment = HasAlignmentBy Ported

abbrev pub HaveLayouts : Members → List MemberLayout → Type 0
HaveLayouts = HaveLayoutsBy Ported

abbrev pub HaveAlignments : Members → List ℕ → Type 0
HaveAlignments = HaveAlignmentsBy Ported

abbrev pub HasNoSize : Members → Type 0
HasNoSize = HasNoSizeBy Ported

abbrev pub AreOffsets : Members → List ℕ → Type 0
AreOffsets = AreOffsetsBy Ported

abbrev pub LacksSize : WgslType → Type 0
LacksSize = LacksSizeBy Ported

-- the least size: a runtime-sized array counts as one element
abbrev pub HasLeastSize : WgslType → ℕ → Type 0
HasLeastSize (array None t) n = IsStride (HasSize t) (HasAlignment t) n
HasLeastSize t n = HasSize t n
