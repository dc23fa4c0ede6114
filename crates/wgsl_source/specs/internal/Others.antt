-- What is known of variables, overrides, entry points, aliases and attributes while they are read.
use Rattle.std.specs.Prelude.{◌≡◌, ◌≢◌, ℕ, List, [], ◌∷◌, ◌++◌, IsTrue, MatchOption, Option, Some, None, Result, Ok, Err, false}
use Rattle.std.specs.Option.{option_or}
use Rattle.wgsl_reader.specs.declared.read.Event.{Event}
use Rattle.wgsl_source.specs.Attributes.{Attribute, GiveExtents, GivesNumber, IsGivenBy, arguments_if, stage_by}
use Rattle.wgsl_source.specs.TextDeclarations.{AreKept, Declared, IsLeft, IsOne, Sort, of_aliases, of_entry_points, of_overrides, of_variables}
use Rattle.wgsl_source.specs.WrittenTypes.{environment, meaning_of}
use Rattle.wgsl_source.specs.declared.attribute.Attributes.{Attributes}
use Rattle.wgsl_source.specs.declared.attribute.Name.TheVariants as name
use Rattle.wgsl_source.specs.declared.declaration.Declaration.{Declaration}
use Rattle.wgsl_source.specs.declared.fault.Fault.{Fault}
use Rattle.wgsl_source.specs.declared.others.Others.{Others}
use Rattle.wgsl_source.specs.declared.scope.Meaning.{Meaning}
use Rattle.wgsl_source.specs.declared.scope.Scope.{Scope}
use Rattle.wgsl_source.specs.declared.text.Text.{Text}
use Rattle.wgsl_source.specs.declared.types.Types.{Types}

abbrev pub declared_of : Declaration → Declared
declared_of d = record { kind = Some d.kind; name = d.name.now; place = d.place; attributes = d.attributes.now; list = d.list.now; rest = d.rest.now }

-- what is kept of a declaration, if anything is
abbrev pub IsReadOf : {A : Type 0} → Sort A → Declaration → Option A → Type 0
IsReadOf sort d read = MatchOption read (sort.IsNone (declared_of d)) (sort.Is (declared_of d))

pub record IsKeptOf {A : Type 0} (sort : Sort A) (d : Declaration) (a : A) : Type 0 where
  pub readable : d.is_faulty ≡ false
  pub one : IsOne sort (declared_of d) a

-- why none is kept of a declaration
pub data IsLeftOf {A : Type 0} (sort : Sort A) (IsFaulty : Type 0) (d : Declaration) : Type 0 where
  misread : IsTrue d.is_faulty → IsLeftOf sort IsFaulty d
  left : IsLeft sort IsFaulty (declared_of d) → IsLeftOf sort IsFaulty d

-- what is kept of declarations is added
pub record AddsKept {A : Type 0} (sort : Sort A) (IsFaulty : Type 0) (ds : List Declaration) (old new : List A) : Type 0 where
  pub added : List A
  pub more : new ≡ old ++ added
  pub are : AreKept (IsKeptOf sort) (IsLeftOf sort IsFaulty) ds added

-- what declarations declare is added; what isn't may be left out because of this fault
pub record AddsOthers (s : Scope) (types : Types) (IsFaulty : Type 0) (ds : List Declaration) (old new : Others) : Type 0 where
  pub variables : AddsKept (of_variables s.text (environment s types)) IsFaulty ds old.variables.items new.variables.items
  pub overrides : AddsKept (of_overrides s.text (environment s types)) IsFaulty ds old.overrides.items new.overrides.items
  pub entry_points : AddsKept (of_entry_points s.text (meaning_of s)) IsFaulty ds old.entry_points.items new.entry_points.items
  pub aliases : AddsKept (of_aliases s.text (environment s types)) IsFaulty ds old.aliases.items new.aliases.items

-- the declaration, if reading goes on
abbrev pub if_read : {A E : Type 0} → Result A E → Declaration → List Declaration
if_read (Ok a) d = d ∷ []
if_read (Err e) d = []

-- what is read is added
abbrev pub IsAdded : {A E : Type 0} → Result (Option A) E → List A → List A → Type 0
IsAdded (Ok (Some a)) old new = new ≡ old ++ a ∷ []
IsAdded (Ok None) old new = new ≡ old
IsAdded (Err e) old new = ⊥

-- reading that stops is told; no fault is taken back
abbrev pub IsToldIn : {A E : Type 0} → Result A E → List Fault → Type 0
IsToldIn (Ok a) faults = Unit {0}
IsToldIn (Err e) faults = faults ≢ []

pub record Tells {A E : Type 0} (read : Result A E) (old new : List Fault) : Type 0 where
  pub still : old ≢ [] → new ≢ []
  pub told : IsToldIn read new

-- what an attribute gives is set, if it is this one
abbrev pub Sets : {A : Type 0} → (List Event → A → Type 0) → Option (List Event) → Option A → Option A → Type 0
Sets Gives (Some arguments) old new = IsGivenBy Gives (Some arguments) new
Sets Gives None old new = new ≡ old

-- what an attribute says is read
pub record Adds (t : Text) (named : List ℕ → Option Meaning) (a : Attribute) (old new : Attributes) : Type 0 where
  pub size : Sets (GivesNumber t named) (arguments_if name.Size a) old.size new.size
  pub align : Sets (GivesNumber t named) (arguments_if name.Align a) old.align new.align
  pub group : Sets (GivesNumber t named) (arguments_if name.Group a) old.group new.group
  pub binding : Sets (GivesNumber t named) (arguments_if name.Binding a) old.binding new.binding
  pub id : Sets (GivesNumber t named) (arguments_if name.Id a) old.id new.id
  pub workgroup_size : Sets (GiveExtents t named) (arguments_if name.WorkgroupSize a) old.workgroup_size new.workgroup_size
  pub stage : new.stage ≡ option_or (stage_by a) old.stage

-- nothing is said
pub record SameValues (old new : Attributes) : Type 0 where
  pub size : new.size ≡ old.size
  pub align : new.align ≡ old.align
  pub group : new.group ≡ old.group
  pub binding : new.binding ≡ old.binding
  pub id : new.id ≡ old.id
  pub workgroup_size : new.workgroup_size ≡ old.workgroup_size
  pub stage : new.stage ≡ old.stage
