-- The structs that a module's text declares, by the events of the grammar (WGSL, "Structure Types").
use Rattle.std.specs.Prelude.{◌≡◌, ◌≢◌, ℕ, List, [], ◌∷◌, ◌++◌, Some, drop, map, slice_get, take}
use Rattle.std.specs.List.{All}
use Rattle.wgsl_reader.specs.declared.read.Event.{Event}
use Rattle.wgsl_spelling.specs.Words.{word}
use Rattle.wgsl_source.specs.Attributes.{Attribute, GivesNumber, InFront, IsSaid}
use Rattle.wgsl_source.specs.Declarations.{AreSites, BehindAttributes, IsNamed, Site, declaration_len, end_at, first_count, inner, len_to, token_before}
use Rattle.wgsl_source.specs.TextDeclarations.{HasDeclared, declared_at}
use Rattle.wgsl_source.specs.declared.declaration.DeclarationKind.TheVariants as kinds
use Rattle.wgsl_source.specs.WrittenTypes.{Environment, HasConstant, HasType}
use Rattle.wgsl_source.specs.declared.attribute.Name.TheVariants as name
use Rattle.wgsl_source.specs.declared.module.Module.{Module}
use Rattle.wgsl_source.specs.declared.parts.End.TheVariants as e
use Rattle.wgsl_source.specs.declared.measured.MeasuredType.{MeasuredType}
use Rattle.wgsl_source.specs.declared.measured.TypeKind.TheVariants as kind
use Rattle.wgsl_source.specs.declared.scope.Meaning.TheVariants as meaning
use Rattle.wgsl_source.specs.declared.structure.Member.{Member}
use Rattle.wgsl_source.specs.declared.structure.Struct.{Struct}
use Rattle.wgsl_source.specs.declared.text.Text.{Text}
use Rattle.wgsl_source.specs.declared.value.Value.{Value}
use Rattle.wgsl_source.specs.declared.value.Value.TheVariants as value

-- a member: its name stands behind its attributes, of these it has its size and its alignment, if they say any, and it has the
-- type that is written behind its name
pub record IsMember (t : Text) (env : Environment) (events : List Event) (member : Member) : Type 0 where
  pub rest : List Event
  pub behind : BehindAttributes events rest
  pub named : IsNamed t rest member.name.now member.place
  pub attributes : List Attribute
  pub there : InFront t events attributes
  pub size : IsSaid (GivesNumber t env.named) name.Size attributes member.size_attribute
  pub align : IsSaid (GivesNumber t env.named) name.Align attributes member.align_attribute
  pub written : HasType t env (inner rest) member.ty

-- the members of a struct, in order: each ends with a `Member`
pub data AreMembers (t : Text) (env : Environment) : List Event → List Member → Type 0 where
  no_member : {events : List Event} → len_to e.Member events ≡ 0 → AreMembers t env events []
  one_member : {events : List Event} {member : Member} {members : List Member} → len_to e.Member events ≢ 0
      → IsMember t env (take (len_to e.Member events) events) member → AreMembers t env (drop (len_to e.Member events) events) members
      → AreMembers t env events (member ∷ members)

-- a struct that is declared there: its name stands behind `struct`, and its members are those up to its `Struct`
pub record IsStructAt (t : Text) (env : Environment) (first : List Event) (struct : Struct) : Type 0 where
  pub keyword : end_at t first ≡ e.Struct
  pub named : IsNamed t first struct.name.now struct.place
  pub members : AreMembers t env (inner (take (declaration_len t first) first)) struct.members.items

-- a struct is one that the events of a module declare
pub record IsDeclared (t : Text) (env : Environment) (whole : List Event) (struct : Struct) : Type 0 where
  pub front : List Event
  pub first : List Event
  pub there : whole ≡ front ++ first
  pub is : IsStructAt t env first struct

-- a name is that of an alias of the type, or of the struct that the type is: `alias Color = vec3f;`, `struct Light {..}`
pub data IsTypeNamed (t : Text) (env : Environment) (structs : List Struct) (sites : List Site) (name : List ℕ) (ty : MeasuredType) : Type 0 where
  an_alias : (k : ℕ) (site : Site) → slice_get sites k ≡ Some site → (declared_at t site).kind ≡ Some kinds.Alias → name ≡ (declared_at t site).name
      → HasType t env (declared_at t site).rest ty → IsTypeNamed t env structs sites name ty
  a_struct : (index : ℕ) (struct : Struct) → ty.kind ≡ kind.Struct index → slice_get structs index ≡ Some struct → struct.name.now ≡ name → IsTypeNamed t env structs sites name ty

-- a name is that of an override, or of a constant with the value: `override W: u32;`, `const N = 2 * M;`
pub data IsValueNamed (t : Text) (env : Environment) (sites : List Site) (name : List ℕ) : Value → Type 0 where
  an_override : (k : ℕ) (site : Site) → slice_get sites k ≡ Some site → (declared_at t site).kind ≡ Some kinds.Override → name ≡ (declared_at t site).name
      → IsValueNamed t env sites name value.Later
  a_constant : {v : Value} (k : ℕ) (site : Site) → slice_get sites k ≡ Some site → (declared_at t site).kind ≡ Some kinds.Constant → name ≡ (declared_at t site).name
      → HasConstant t env (declared_at t site).rest v → IsValueNamed t env sites name v

-- Each struct that is declared there is one of these, at the next index, or is left out under its name. So are those that can't
-- be read, under names that stand in the text.
pub data AreTold (t : Text) (env : Environment) (structs : List Struct) : List Site → List ℕ → List (List ℕ) → Type 0 where
  none_told : AreTold t env structs [] [] []
  other_told : {site : Site} {sites : List Site} {indices : List ℕ} {names : List (List ℕ)} → end_at t site.first ≢ e.Struct
      → AreTold t env structs sites indices names → AreTold t env structs (site ∷ sites) indices names
  kept : {site : Site} {sites : List Site} {index : ℕ} {indices : List ℕ} {names : List (List ℕ)} {struct : Struct} → slice_get structs index ≡ Some struct
      → IsStructAt t env site.first struct → AreTold t env structs sites indices names → AreTold t env structs (site ∷ sites) (index ∷ indices) names
  left_out : {site : Site} {sites : List Site} {indices : List ℕ} {name : List ℕ} {names : List (List ℕ)} → end_at t site.first ≡ e.Struct
      → name ≡ word t.text.now (token_before t (first_count site.first)) → AreTold t env structs sites indices names → AreTold t env structs (site ∷ sites) indices (name ∷ names)
  misread_told : {sites : List Site} {indices : List ℕ} {name : List ℕ} {names : List (List ℕ)} (count : ℕ) → name ≡ word t.text.now (token_before t count)
      → AreTold t env structs sites indices names → AreTold t env structs sites indices (name ∷ names)

-- None of the structs that the events declare is lost, and none changes its place.
pub record AreAllTold (t : Text) (env : Environment) (whole : List Event) (structs : List Struct) (indices : List ℕ) (names : List (List ℕ)) : Type 0 where
  pub sites : List Site
  pub there : AreSites t whole sites
  pub told : AreTold t env structs sites indices names

-- Each struct is declared there, and so is everything else. The names of aliases and structs, and no others, stand for types, each for one,
-- and those of overrides and constants for values.
pub record AreDeclared (t : Text) (whole : List Event) (m : Module) : Type 0 where
  pub env : Environment
  pub elements : env.elements ≡ m.elements.items
  pub sites : List Site
  pub stand : AreSites t whole sites
  pub types : (name : List ℕ) (ty : MeasuredType) → env.named name ≡ Some (meaning.«Type» ty) → IsTypeNamed t env m.structs.items sites name ty
  pub values : (name : List ℕ) (v : Value) → env.named name ≡ Some (meaning.Value v) → IsValueNamed t env sites name v
  pub structs : All (IsDeclared t env whole) m.structs.items
  pub told : AreAllTold t env whole m.structs.items m.in_text.items (map (λ name. name.now) m.left_out.items)
  pub others : HasDeclared t env whole m
