-- What the names of types stand for that have no template list (WGSL, "Predeclared Types", "Type Aliases").
use Rattle.std.specs.Prelude.{◌≡◌, ℕ, List, Option, Some, None, option_and_then, slice_get}
use Rattle.std.specs.BTreeMap.{get_by}
use Rattle.std.specs.Cmp.Lexicographic.{slice_cmp}
use Rattle.std.specs.Ordering.{nat_cmp}
use Rattle.wgsl_rules.specs.types.Types.{mat, scalar, vec}
use Rattle.wgsl_spelling.specs.Predeclared.{predeclared}
use Rattle.wgsl_spelling.specs.declared.predeclared.PredeclaredType.{PredeclaredType}
use Rattle.wgsl_spelling.specs.declared.predeclared.PredeclaredType.TheVariants as p
use Rattle.wgsl_syntax.specs.TextureName.{texture_with}
use Rattle.wgsl_syntax.specs.declared.texture.TextureType.{TextureType}
use Rattle.wgsl_syntax.specs.declared.texture_name.TextureParameters.TheVariants as parameters
use Rattle.wgsl_source.specs.Measures.{IsMeasureOf}
use Rattle.wgsl_source.specs.declared.measured.MeasuredType.{MeasuredType}
use Rattle.wgsl_source.specs.declared.measured.TypeKind.{TypeKind}
use Rattle.wgsl_source.specs.declared.measured.TypeKind.TheVariants as kind
use Rattle.wgsl_source.specs.declared.scope.Meaning.{Meaning}
use Rattle.wgsl_source.specs.declared.scope.Meaning.TheVariants as meaning
use Rattle.wgsl_source.specs.declared.scope.Scope.{Scope}
use Rattle.wgsl_source.specs.declared.types.Types.{Types}

-- what the names stand for that a module declares, and the types in its arrays, binding arrays and pointers, by their indices
pub record Environment : Type 0 where
  pub named : List ℕ → Option Meaning
  pub elements : List MeasuredType

-- the index of the declaration with a name, and what that stands for
abbrev pub index_of : Scope → List ℕ → Option ℕ
index_of s name = get_by (λ key. slice_cmp nat_cmp name key.now) s.names

abbrev pub meaning_of : Scope → List ℕ → Option Meaning
meaning_of s name = option_and_then (slice_get s.meanings.items) (index_of s name)

abbrev pub environment : Scope → Types → Environment
environment s types = record { named = meaning_of s; elements = types.elements.items }

-- a type that is no data
pub record IsResource (kind : TypeKind) (t : MeasuredType) : Type 0 where
  pub kind_is : t.kind ≡ kind
  pub size : t.size ≡ None
  pub align : t.align ≡ None

-- the type of a predeclared name without a list: `f32`, `vec3f`, `sampler`, `texture_external`
abbrev pub IsLeaf : PredeclaredType → MeasuredType → Type 0
IsLeaf (p.Scalar s) t = (t.kind ≡ kind.Scalar s) × IsMeasureOf (scalar s) t
IsLeaf (p.Vec n s) t = (t.kind ≡ kind.Vector n s) × IsMeasureOf (vec n (scalar s)) t
IsLeaf (p.Mat c r s) t = (t.kind ≡ kind.Matrix c r s) × IsMeasureOf (mat c r (scalar s)) t
IsLeaf (p.Sampler s) t = IsResource (kind.Sampler s) t
IsLeaf (p.Texture n) t = (x : TextureType) × (texture_with n parameters.None ≡ Some x) × IsResource (kind.Texture x) t
IsLeaf p.RayQuery t = IsResource (kind.RayQuery None) t
IsLeaf p.AccelerationStructure t = IsResource (kind.AccelerationStructure None) t
IsLeaf (p.Layer l) t = ⊥

-- a name without a list stands for this type: that of the declaration with the name, or else that of the predeclared name
abbrev pub StandsFor : List ℕ → Option Meaning → MeasuredType → Type 0
StandsFor name (Some (meaning.«Type» declared)) t = t ≡ declared
StandsFor name (Some meant) t = ⊥
StandsFor name None t = (named : PredeclaredType) × (predeclared name ≡ Some named) × IsLeaf named t
