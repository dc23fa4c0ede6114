-- What items and template lists stand for, by the events of the grammar (WGSL, "Types", "Template Lists").
use Rattle.std.specs.Prelude.{◌≡◌, ℕ, pos, List, [], ◌∷◌, IfSome, Option, Some, None, codes, slice_get}
use Rattle.wgsl_constants.specs.Conversions.{number}
use Rattle.wgsl_constants.specs.declared.constant.Constant.TheVariants as constant
use Rattle.wgsl_reader.specs.declared.token.Token.{Token}
use Rattle.wgsl_rules.specs.types.Types.{atomic, mat, scalar, vec}
use Rattle.wgsl_spelling.specs.Predeclared.{predeclared}
use Rattle.wgsl_spelling.specs.Words.{word}
use Rattle.wgsl_spelling.specs.declared.predeclared.LayerName.{LayerName}
use Rattle.wgsl_spelling.specs.declared.predeclared.LayerName.TheVariants as layer
use Rattle.wgsl_spelling.specs.declared.predeclared.PredeclaredType.{PredeclaredType}
use Rattle.wgsl_spelling.specs.declared.predeclared.PredeclaredType.TheVariants as p
use Rattle.wgsl_syntax.specs.Texture.{sampled_text}
use Rattle.wgsl_syntax.specs.TextureName.{texture_with}
use Rattle.wgsl_syntax.specs.declared.address.AccessMode.{AccessMode}
use Rattle.wgsl_syntax.specs.declared.address.AddressSpace.{AddressSpace}
use Rattle.wgsl_syntax.specs.declared.attribute.AccelerationStructureFlags.{AccelerationStructureFlags}
use Rattle.wgsl_syntax.specs.declared.scalar.Scalar.{Scalar}
use Rattle.wgsl_syntax.specs.declared.scalar.Scalar.TheVariants as scalars
use Rattle.wgsl_syntax.specs.declared.texture.SampledType.{SampledType}
use Rattle.wgsl_syntax.specs.declared.texture.SampledType.TheVariants as sampled
use Rattle.wgsl_syntax.specs.declared.texture.TextureType.{TextureType}
use Rattle.wgsl_syntax.specs.declared.texture_name.TextureName.{TextureName}
use Rattle.wgsl_syntax.specs.declared.texture_name.TextureParameters.{TextureParameters}
use Rattle.wgsl_syntax.specs.declared.texture_name.TextureParameters.TheVariants as parameters
use Rattle.wgsl_source.specs.Measures.{IsArrayAmong, IsMeasureOf}
use Rattle.wgsl_source.specs.NamedTypes.{Environment, IsResource, StandsFor}
use Rattle.wgsl_source.specs.declared.item.Content.{Content}
use Rattle.wgsl_source.specs.declared.item.Content.TheVariants as content
use Rattle.wgsl_source.specs.declared.item.Item.{Item}
use Rattle.wgsl_source.specs.declared.measured.Count.{Count}
use Rattle.wgsl_source.specs.declared.measured.Count.TheVariants as count
use Rattle.wgsl_source.specs.declared.measured.MeasuredType.{MeasuredType}
use Rattle.wgsl_source.specs.declared.measured.TypeKind.TheVariants as kind
use Rattle.wgsl_source.specs.declared.scope.Meaning.{Meaning}
use Rattle.wgsl_source.specs.declared.scope.Meaning.TheVariants as meaning
use Rattle.wgsl_source.specs.declared.text.Text.{Text}
use Rattle.wgsl_source.specs.declared.value.Value.{Value}
use Rattle.wgsl_source.specs.declared.value.Value.TheVariants as value
use Rattle.wgsl_source.specs.internal.Items.{HasAccess, NamesAccess, NamesFlag, NamesFormat, NamesSpace}

-- Items: what is read of a type or a value, and isn't yet part of a larger one

abbrev pub item : Token → Content → Item
item token content = record { token = token; content = content }

-- the type that an item is: that of a name, or of a name with its list
abbrev pub IsTypeSaid : Text → (List ℕ → Option Meaning) → Token → Content → MeasuredType → Type 0
IsTypeSaid t named token content.Name ty = StandsFor (word t.text.now token) (named (word t.text.now token)) ty
IsTypeSaid t named token (content.«Type» listed) ty = ty ≡ listed
IsTypeSaid t named token other ty = ⊥

-- the value that an item is: that of a constant or an override, of a literal, or of another expression
abbrev pub IsValueSaid : Text → (List ℕ → Option Meaning) → Token → Content → Value → Type 0
IsValueSaid t named token content.Name v = named (word t.text.now token) ≡ Some (meaning.Value v)
IsValueSaid t named token (content.Value known) v = v ≡ known
IsValueSaid t named token other v = ⊥

-- the number of elements that a value is
abbrev pub IsCountOf : Value → Count → Type 0
IsCountOf (value.Known (constant.Integer i)) (count.Known n) = number i ≡ pos n
IsCountOf value.Later c = c ≡ count.Override
IsCountOf v c = ⊥

-- Template lists

-- behind an element's type: nothing, or the number of elements
abbrev pub IsCount : Text → (List ℕ → Option Meaning) → List Item → Count → Type 0
IsCount t named [] c = c ≡ count.Runtime
IsCount t named (x ∷ []) c = (v : Value) × IsValueSaid t named x.token x.content v × IsCountOf v c
IsCount t named more c = ⊥

-- `f32, 4` in `array<f32, 4>`
abbrev pub AreElements : Text → (List ℕ → Option Meaning) → List Item → MeasuredType → Count → Type 0
AreElements t named [] element c = ⊥
AreElements t named (x ∷ rest) element c = IsTypeSaid t named x.token x.content element × IsCount t named rest c

-- a vector, a matrix or an atomic of a scalar: `vec3<f32>`, `mat4x3<f32>`, `atomic<u32>`
abbrev pub IsOfScalar : LayerName → Scalar → MeasuredType → Type 0
IsOfScalar (layer.Vec n) s t = (t.kind ≡ kind.Vector n s) × IsMeasureOf (vec n (scalar s)) t
IsOfScalar (layer.Mat c r) s t = (t.kind ≡ kind.Matrix c r s) × IsMeasureOf (mat c r (scalar s)) t
IsOfScalar layer.Atomic s t = (t.kind ≡ kind.Atomic s) × IsMeasureOf (atomic (scalar s)) t
IsOfScalar other s t = ⊥

abbrev pub HasScalar : LayerName → MeasuredType → MeasuredType → Type 0
HasScalar l inside t = (s : Scalar) × (inside.kind ≡ kind.Scalar s) × IsOfScalar l s t

abbrev pub IsAround : Text → (List ℕ → Option Meaning) → LayerName → List Item → MeasuredType → Type 0
IsAround t named l (x ∷ []) ty = (inside : MeasuredType) × IsTypeSaid t named x.token x.content inside × HasScalar l inside ty
IsAround t named l items ty = ⊥

-- `array<Light, 4>`: the element's type is among those of the module at the array's index
pub record IsArray (t : Text) (e : Environment) (items : List Item) (ty : MeasuredType) : Type 0 where
  pub element : MeasuredType
  pub count : Count
  pub said : AreElements t e.named items element count
  pub is : IsArrayAmong e.elements element count ty

-- `binding_array<texture_2d<f32>, 4>`
pub record IsBindingArray (t : Text) (e : Environment) (items : List Item) (ty : MeasuredType) : Type 0 where
  pub element : MeasuredType
  pub count : Count
  pub said : AreElements t e.named items element count
  pub index : ℕ
  pub is : IsResource (kind.BindingArray index count) ty
  pub there : slice_get e.elements index ≡ Some element

-- `ptr<storage, Light, read>`
pub record PointsTo (t : Text) (e : Environment) (s x : Item) (rest : List Item) (ty : MeasuredType) : Type 0 where
  pub space : AddressSpace
  pub access : AccessMode
  pub inside : MeasuredType
  pub index : ℕ
  pub names : NamesSpace t e.named s space
  pub said : IsTypeSaid t e.named x.token x.content inside
  pub accessed : HasAccess t e.named space rest access
  pub is : IsResource (kind.Pointer space index access) ty
  pub there : slice_get e.elements index ≡ Some inside

abbrev pub IsPointer : Text → Environment → List Item → MeasuredType → Type 0
IsPointer t e (s ∷ x ∷ rest) ty = PointsTo t e s x rest ty
IsPointer t e items ty = ⊥

abbrev pub IsLayered : Text → Environment → LayerName → List Item → MeasuredType → Type 0
IsLayered t e layer.Array items ty = IsArray t e items ty
IsLayered t e layer.BindingArray items ty = IsBindingArray t e items ty
IsLayered t e layer.Pointer items ty = IsPointer t e items ty
IsLayered t e l items ty = IsAround t e.named l items ty

-- the scalar that a sampled type is
abbrev pub scalar_of : SampledType → Scalar
scalar_of sampled.F32 = scalars.F32
scalar_of sampled.I32 = scalars.I32
scalar_of sampled.U32 = scalars.U32

-- `f32`, or the name of an alias of it
abbrev pub IsSampledBy : List ℕ → Option Meaning → SampledType → Type 0
IsSampledBy name (Some (meaning.«Type» declared)) s = declared.kind ≡ kind.Scalar (scalar_of s)
IsSampledBy name (Some meant) s = ⊥
IsSampledBy name None s = name ≡ sampled_text s

pub record IsSampled (t : Text) (named : List ℕ → Option Meaning) (item : Item) (s : SampledType) : Type 0 where
  pub name : item.content ≡ content.Name
  pub is : IsSampledBy (word t.text.now item.token) (named (word t.text.now item.token)) s

-- `f32` in `texture_2d<f32>`, `rgba8unorm, write` in `texture_storage_2d<rgba8unorm, write>`
abbrev pub AreParameters : Text → (List ℕ → Option Meaning) → List Item → TextureParameters → Type 0
AreParameters t named (x ∷ []) (parameters.Sampled s) = IsSampled t named x s
AreParameters t named (x ∷ y ∷ []) (parameters.Storage format access) = NamesFormat t named x format × NamesAccess t named y access
AreParameters t named items other = ⊥

pub record IsTexture (t : Text) (named : List ℕ → Option Meaning) (name : TextureName) (items : List Item) (texture : TextureType) : Type 0 where
  pub parameters : TextureParameters
  pub said : AreParameters t named items parameters
  pub is : texture_with name parameters ≡ Some texture

-- `vertex_return` in `ray_query<vertex_return>`
abbrev pub IsFlag : Text → (List ℕ → Option Meaning) → List Item → AccelerationStructureFlags → Type 0
IsFlag t named (x ∷ []) flag = NamesFlag t named x flag
IsFlag t named items flag = ⊥

-- a predeclared name with a list stands for this type
abbrev pub IsListed : Text → Environment → PredeclaredType → List Item → MeasuredType → Type 0
IsListed t e (p.Layer l) items ty = IsLayered t e l items ty
IsListed t e (p.Texture name) items ty = (x : TextureType) × IsTexture t e.named name items x × IsResource (kind.Texture x) ty
IsListed t e p.RayQuery items ty = (flag : AccelerationStructureFlags) × IsFlag t e.named items flag × IsResource (kind.RayQuery (Some flag)) ty
IsListed t e p.AccelerationStructure items ty = (flag : AccelerationStructureFlags) × IsFlag t e.named items flag × IsResource (kind.AccelerationStructure (Some flag)) ty
IsListed t e named items ty = ⊥

-- a name with a list that the module doesn't declare: a type, or what is called
abbrev pub IsListedAs : Text → Environment → List ℕ → List Item → Content → Type 0
IsListedAs t e name items (content.«Type» ty) = (named : PredeclaredType) × (predeclared name ≡ Some named) × IsListed t e named items ty
IsListedAs t e name (x ∷ []) (content.Bitcast s) = (name ≡ codes "bitcast") × (ty : MeasuredType) × IsTypeSaid t e.named x.token x.content ty × IfSome s (λ scalar. ty.kind ≡ kind.Scalar scalar)
IsListedAs t e name items content.Function = predeclared name ≡ None
IsListedAs t e name items other = ⊥

abbrev pub IsListedBy : Text → Environment → Item → List Item → Content → Type 0
IsListedBy t e name items content = (e.named (word t.text.now name.token) ≡ None) × IsListedAs t e (word t.text.now name.token) items content
