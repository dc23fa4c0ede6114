-- The variables, overrides, entry points and aliases that a module's text declares, by the events of the grammar (WGSL, "Declaration and Scope").
use Rattle.std.specs.Prelude.{◌≡◌, ◌≢◌, ℕ, List, [], ◌∷◌, IfSome, Option, Some, None, length, nat_eq, not, take}
use Rattle.wgsl_constants.specs.Conversions.{i32_of}
use Rattle.wgsl_constants.specs.Literals.{found}
use Rattle.wgsl_constants.specs.Values.{map_value}
use Rattle.wgsl_constants.specs.declared.constant.Constant.TheVariants as constant
use Rattle.wgsl_constants.specs.declared.integer.Integer.TheVariants.{Abstract, I32, U32}
use Rattle.wgsl_reader.specs.declared.read.Event.{Event}
use Rattle.wgsl_spelling.specs.Words.{word}
use Rattle.wgsl_syntax.specs.declared.scalar.Scalar.{Scalar}
use Rattle.wgsl_syntax.specs.declared.scalar.Scalar.TheVariants as scalars
use Rattle.wgsl_source.specs.Attributes.{Attribute, GiveExtents, GivesNumber, InFront, IsSaid, last_said, stage_by}
use Rattle.wgsl_source.specs.Declarations.{AreSites, Site, declaration_len, declared_type, end_at, first_count, initializer, inner, list_len, token_before, without_last}
use Rattle.wgsl_source.specs.Qualifiers.{IsQualified}
use Rattle.wgsl_source.specs.WrittenTypes.{Environment, HasType, HasValue}
use Rattle.wgsl_source.specs.declared.attribute.Name.TheVariants as name
use Rattle.wgsl_source.specs.declared.declaration.DeclarationKind.{DeclarationKind}
use Rattle.wgsl_source.specs.declared.declaration.DeclarationKind.TheVariants as kinds
use Rattle.wgsl_source.specs.declared.entry.EntryPoint.{EntryPoint}
use Rattle.wgsl_source.specs.declared.entry.Override.{Override}
use Rattle.wgsl_source.specs.declared.measured.MeasuredType.{MeasuredType}
use Rattle.wgsl_source.specs.declared.measured.TypeKind.TheVariants as kind
use Rattle.wgsl_source.specs.declared.module.Module.{Module}
use Rattle.wgsl_source.specs.declared.others.Alias.{Alias}
use Rattle.wgsl_source.specs.declared.parts.End.{End}
use Rattle.wgsl_source.specs.declared.parts.End.TheVariants as e
use Rattle.wgsl_source.specs.declared.scope.Meaning.{Meaning}
use Rattle.wgsl_source.specs.declared.text.Text.{Text}
use Rattle.wgsl_source.specs.declared.value.Value.{Value}
use Rattle.wgsl_source.specs.declared.value.Value.TheVariants as value
use Rattle.wgsl_source.specs.declared.variable.Variable.{Variable}

-- what is declared by what ends so
abbrev pub declared_by : End → Option DeclarationKind
declared_by e.Alias = Some kinds.Alias
declared_by e.Struct = Some kinds.Struct
declared_by e.Constant = Some kinds.Constant
declared_by e.Override = Some kinds.Override
declared_by e.Variable = Some kinds.Variable
declared_by e.Function = Some kinds.Function
declared_by other = None

-- what stands there: its name, the events from its attributes on, those of its template list, and those behind its name
pub record Declared : Type 0 where
  pub kind : Option DeclarationKind
  pub name : List ℕ
  pub place : ℕ
  pub attributes : List Event
  pub list : List Event
  pub rest : List Event

abbrev pub declared_at : Text → Site → Declared
declared_at t site = record {
  kind = declared_by (end_at t site.first);
  name = word t.text.now (token_before t (first_count site.first));
  place = (token_before t (first_count site.first)).at;
  attributes = site.attributes;
  list = take (list_len site.list) site.list;
  rest = inner (take (declaration_len t site.first) site.first);
}

-- the name and the attributes that stand there
pub record Stands (t : Text) (d : Declared) (text : List ℕ) (at : ℕ) : Type 0 where
  pub name : text ≡ d.name
  pub place : at ≡ d.place
  pub attributes : List Attribute
  pub there : InFront t d.attributes attributes

-- `@group(0) @binding(1) var<storage> lights: array<Light>;`
pub record IsVariable (t : Text) (env : Environment) (d : Declared) (v : Variable) : Type 0 where
  pub stands : Stands t d v.name.now v.place
  pub group : IsSaid (GivesNumber t env.named) name.Group stands.attributes v.group
  pub binding : IsSaid (GivesNumber t env.named) name.Binding stands.attributes v.binding
  pub qualified : IsQualified t env.named d.list v.space v.access
  pub written : HasType t env (declared_type d.rest) v.ty

-- the events behind the `=` of an override
abbrev pub default : List Event → List Event
default events = without_last (initializer events)

-- the type of an override by its value: a number without a suffix is an `i32`, if it has no point
abbrev pub type_of_value : Value → Option Scalar
type_of_value (value.Known (constant.Integer (Abstract n))) = map_value (λ i. scalars.I32) (found (i32_of n))
type_of_value (value.Known (constant.Integer (I32 n))) = Some scalars.I32
type_of_value (value.Known (constant.Integer (U32 n))) = Some scalars.U32
type_of_value (value.Known (constant.Bool b)) = Some scalars.Bool
type_of_value (value.Known (constant.Float n)) = Some scalars.F32
type_of_value other = None

abbrev pub IsDeclaredScalar : Text → Environment → List Event → Scalar → Type 0
IsDeclaredScalar t env events s = (ty : MeasuredType) × HasType t env events ty × (ty.kind ≡ kind.Scalar s)

abbrev pub IsOfValue : Text → (List ℕ → Option Meaning) → List Event → Scalar → Type 0
IsOfValue t named events s = (v : Value) × HasValue t named events v × (type_of_value v ≡ Some s)

-- the scalar that is declared, or else that of the value; of a value that isn't computed none is known
pub data HasScalar (t : Text) (env : Environment) (ty value : List Event) : Option Scalar → Type 0 where
  declared : {s : Scalar} → IsDeclaredScalar t env ty s → HasScalar t env ty value (Some s)
  of_default : {s : Option Scalar} → ty ≡ [] → IfSome s (IsOfValue t env.named value) → HasScalar t env ty value s

-- `@id(7) override width: u32 = 4;`
pub record IsOverride (t : Text) (env : Environment) (d : Declared) (o : Override) : Type 0 where
  pub stands : Stands t d o.name.now o.place
  pub id : IsSaid (GivesNumber t env.named) name.Id stands.attributes o.id
  pub has_type : HasScalar t env (declared_type d.rest) (default d.rest) o.ty
  pub has_default : o.has_default ≡ not (nat_eq (length (default d.rest)) 0)

-- `@compute @workgroup_size(64) fn main() {}`
pub record IsEntryPoint (t : Text) (named : List ℕ → Option Meaning) (d : Declared) (f : EntryPoint) : Type 0 where
  pub stands : Stands t d f.name.now f.place
  pub stage : last_said stage_by stands.attributes ≡ Some f.stage
  pub workgroup_size : IsSaid (GiveExtents t named) name.WorkgroupSize stands.attributes f.workgroup_size

-- `fn lit() {}`
pub record HasNoStage (t : Text) (d : Declared) : Type 0 where
  pub attributes : List Attribute
  pub there : InFront t d.attributes attributes
  pub none : last_said stage_by attributes ≡ None

-- `alias Color = vec4<f32>;`
pub record IsAlias (t : Text) (env : Environment) (d : Declared) (a : Alias) : Type 0 where
  pub name : a.name.now ≡ d.name
  pub written : HasType t env d.rest a.ty

-- What is kept of declarations of a kind, and of which nothing is: of `var<private> count = 1u;`, whose type follows from its value.
pub record Sort (A : Type 0) : Type 1 where
  pub kind : DeclarationKind
  pub Is : Declared → A → Type 0
  pub IsNone : Declared → Type 0

abbrev pub of_variables : Text → Environment → Sort Variable
of_variables t env = record { kind = kinds.Variable; Is = IsVariable t env; IsNone = λ d. declared_type d.rest ≡ [] }

abbrev pub of_overrides : Text → Environment → Sort Override
of_overrides t env = record { kind = kinds.Override; Is = IsOverride t env; IsNone = λ d. ⊥ }

abbrev pub of_entry_points : Text → (List ℕ → Option Meaning) → Sort EntryPoint
of_entry_points t named = record { kind = kinds.Function; Is = IsEntryPoint t named; IsNone = HasNoStage t }

abbrev pub of_aliases : Text → Environment → Sort Alias
of_aliases t env = record { kind = kinds.Alias; Is = IsAlias t env; IsNone = λ d. ⊥ }

pub record IsOne {A : Type 0} (sort : Sort A) (d : Declared) (a : A) : Type 0 where
  pub of_kind : d.kind ≡ Some sort.kind
  pub is : sort.Is d a

-- why nothing is kept of what stands there
pub data IsLeft {A : Type 0} (sort : Sort A) (IsFaulty : Type 0) (d : Declared) : Type 0 where
  of_other_kind : d.kind ≢ Some sort.kind → IsLeft sort IsFaulty d
  none : sort.IsNone d → IsLeft sort IsFaulty d
  faulty : IsFaulty → IsLeft sort IsFaulty d

-- each of the first is kept as one of the second, in order, or is left out for a reason
pub data AreKept {A B : Type 0} (IsKept : A → B → Type 0) (IsLeftOut : A → Type 0) : List A → List B → Type 0 where
  none_kept : AreKept IsKept IsLeftOut [] []
  one_kept : {a : A} {b : B} {xs : List A} {ys : List B} → IsKept a b → AreKept IsKept IsLeftOut xs ys → AreKept IsKept IsLeftOut (a ∷ xs) (b ∷ ys)
  one_left : {a : A} {xs : List A} {ys : List B} → IsLeftOut a → AreKept IsKept IsLeftOut xs ys → AreKept IsKept IsLeftOut (a ∷ xs) ys

-- Each that the events declare is there, in order, and no other one; if there are faults, some may be missing.
pub record AreAllDeclared {A : Type 0} (sort : Sort A) (t : Text) (whole : List Event) (IsFaulty : Type 0) (found : List A) : Type 0 where
  pub sites : List Site
  pub stand : AreSites t whole sites
  pub kept : AreKept (λ site. IsOne sort (declared_at t site)) (λ site. IsLeft sort IsFaulty (declared_at t site)) sites found

-- the variables, overrides, entry points and aliases of a module are those that the events declare
pub record HasDeclared (t : Text) (env : Environment) (whole : List Event) (m : Module) : Type 0 where
  pub variables : AreAllDeclared (of_variables t env) t whole (m.faults.items ≢ []) m.variables.items
  pub overrides : AreAllDeclared (of_overrides t env) t whole (m.faults.items ≢ []) m.overrides.items
  pub entry_points : AreAllDeclared (of_entry_points t env.named) t whole (m.faults.items ≢ []) m.entry_points.items
  pub aliases : AreAllDeclared (of_aliases t env) t whole (m.faults.items ≢ []) m.aliases.items
