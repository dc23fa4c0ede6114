-- What is known of a declaration while a module is read.
use Rattle.std.specs.Prelude.{◌≡◌, ◌≢◌, ◌⊎◌, ℕ, List, Option, [], ◌∷◌, ◌++◌, Some, None, IsTrue, false, drop, map, slice_get, take}
use Rattle.std.specs.List.{All}
use Rattle.wgsl_reader.specs.declared.read.Event.{Event}
use Rattle.wgsl_spelling.specs.Words.{word}
use Rattle.wgsl_source.specs.Declarations.{AreSites, BehindAttributes, IsNamed, IsSite, Site, declaration_len, end_at, first_count, inner, list_len, token_before}
use Rattle.wgsl_source.specs.TextDeclarations.{declared_by}
use Rattle.wgsl_source.specs.TextStructs.{AreMembers}
use Rattle.wgsl_source.specs.declared.declaration.Declaration.{Declaration}
use Rattle.wgsl_source.specs.declared.declaration.DeclarationKind.TheVariants as kinds
use Rattle.wgsl_source.specs.declared.declaration.Read.{Read}
use Rattle.wgsl_source.specs.declared.listed.Listed.{Listed}
use Rattle.wgsl_source.specs.declared.reader.Reader.{Reader}
use Rattle.wgsl_source.specs.declared.measured.TypeKind.{TypeKind}
use Rattle.wgsl_source.specs.declared.measured.TypeKind.TheVariants as kind
use Rattle.wgsl_source.specs.declared.parts.End.TheVariants as e
use Rattle.wgsl_source.specs.declared.measured.MeasuredType.{MeasuredType}
use Rattle.wgsl_source.specs.declared.scope.Meaning.{Meaning}
use Rattle.wgsl_source.specs.declared.scope.Scope.{Scope}
use Rattle.wgsl_source.specs.WrittenTypes.{Environment, HasConstant, HasInitial, HasType, environment, index_of, meaning_of}
use Rattle.wgsl_source.specs.declared.scope.Meaning.TheVariants as meaning
use Rattle.wgsl_source.specs.declared.structure.Struct.{Struct}
use Rattle.wgsl_source.specs.declared.text.Text.{Text}
use Rattle.wgsl_source.specs.declared.types.Types.{Types}
use Rattle.wgsl_source.specs.declared.value.Value.{Value}
use Rattle.wgsl_source.specs.declared.value.Value.TheVariants as value

-- the next declaration, directive or assertion of some events
pub record IsNext (t : Text) (events : List Event) (r : Read) : Type 0 where
  pub site : Site
  pub there : IsSite t events site
  pub kind : r.kind ≡ declared_by (end_at t site.first)
  pub attributes : r.attributes.now ≡ site.attributes
  pub list : r.list.now ≡ take (list_len site.list) site.list
  pub count : r.named ≡ first_count site.first
  pub read : r.events.now ≡ take (declaration_len t site.first) site.first
  pub behind : r.behind.now ≡ drop (declaration_len t site.first) site.first

-- no other one begins
pub record IsNone (t : Text) (events : List Event) : Type 0 where
  pub list : List Event
  pub attributed : BehindAttributes events list
  pub none : declaration_len t (drop (list_len list) list) ≡ 0

-- a declaration that stands there
pub record IsOf (t : Text) (site : Site) (d : Declaration) : Type 0 where
  pub kind : declared_by (end_at t site.first) ≡ Some d.kind
  pub readable : d.is_faulty ≡ false
  pub named : IsNamed t site.first d.name.now d.place
  pub attributes : d.attributes.now ≡ site.attributes
  pub list : d.list.now ≡ take (list_len site.list) site.list
  pub rest : d.rest.now ≡ inner (take (declaration_len t site.first) site.first)

-- one that can't be read, whose name stands in the text
pub record IsMisread (t : Text) (d : Declaration) : Type 0 where
  pub faulty : IsTrue d.is_faulty
  pub count : ℕ
  pub name : d.name.now ≡ word t.text.now (token_before t count)

-- the declarations that stand there, in order, with those between them that can't be read
pub data AreOf (t : Text) : List Site → List Declaration → Type 0 where
  no_other : AreOf t [] []
  no_declaration : {site : Site} {sites : List Site} {ds : List Declaration} → declared_by (end_at t site.first) ≡ None → AreOf t sites ds → AreOf t (site ∷ sites) ds
  declaration : {site : Site} {sites : List Site} {d : Declaration} {ds : List Declaration} → IsOf t site d → AreOf t sites ds → AreOf t (site ∷ sites) (d ∷ ds)
  misread : {sites : List Site} {d : Declaration} {ds : List Declaration} → IsMisread t d → AreOf t sites ds → AreOf t sites (d ∷ ds)

-- the declarations that stand there are added
pub record Adds (t : Text) (sites : List Site) (old new : List Declaration) : Type 0 where
  pub added : List Declaration
  pub kept : new ≡ old ++ added
  pub are : AreOf t sites added

-- these are the declarations of all the events
pub record AreAll (t : Text) (events : List Event) (ds : List Declaration) : Type 0 where
  pub sites : List Site
  pub there : AreSites t events sites
  pub are : AreOf t sites ds

-- the name of a declaration, and its members
pub record IsFrom (t : Text) (env : Environment) (d : Declaration) (struct : Struct) : Type 0 where
  pub name : struct.name.now ≡ d.name.now
  pub place : struct.place ≡ d.place
  pub members : AreMembers t env d.rest.now struct.members.items

-- each name has the index of a declaration with the name
abbrev pub AreNamed : List Declaration → Scope → Type 0
AreNamed ds s = (name : List ℕ) (index : ℕ) → index_of s name ≡ Some index → (d : Declaration) × (slice_get ds index ≡ Some d) × (d.name.now ≡ name)

-- names keep their declarations, and what they stand for once these are read
pub record Stays (old new : Scope) : Type 0 where
  pub names : new.names ≡ old.names
  pub meanings : (name : List ℕ) (m : Meaning) → m ≢ meaning.Unread → meaning_of old name ≡ Some m → meaning_of new name ≡ Some m
  pub undeclared : (name : List ℕ) → meaning_of old name ≡ None → meaning_of new name ≡ None

-- a struct that can be read is one of the text's
pub record IsDeclaredAt (t : Text) (whole : List Event) (d : Declaration) : Type 0 where
  pub front : List Event
  pub first : List Event
  pub there : whole ≡ front ++ first
  pub keyword : end_at t first ≡ e.Struct
  pub named : IsNamed t first d.name.now d.place
  pub rest : d.rest.now ≡ inner (take (declaration_len t first) first)

abbrev pub IsDeclaration : Text → List Event → Declaration → Type 0
IsDeclaration t whole d = d.is_faulty ≡ false → d.kind ≡ kinds.Struct → IsDeclaredAt t whole d

-- what is known: nothing, of a declaration, of all, of one that can be read, or of a struct
abbrev pub Nothing : Text → List Event → Type 0
Nothing t whole = Unit {0}

abbrev pub Known : Declaration → Text → List Event → Type 0
Known d t whole = IsDeclaration t whole d

abbrev pub KnownAll : List Declaration → Text → List Event → Type 0
KnownAll ds t whole = All (IsDeclaration t whole) ds

abbrev pub KnownStruct : Declaration → Text → List Event → Type 0
KnownStruct d t whole = d.kind ≡ kinds.Struct → IsDeclaredAt t whole d

abbrev pub KnownAt : Declaration → Text → List Event → Type 0
KnownAt d t whole = IsDeclaredAt t whole d

-- a struct of a declaration is at this index of those that are read
pub record IsReadAs (t : Text) (env : Environment) (structs : List Struct) (d : Declaration) (index : ℕ) : Type 0 where
  pub readable : d.is_faulty ≡ false
  pub struct : Struct
  pub there : slice_get structs index ≡ Some struct
  pub from : IsFrom t env d struct

abbrev pub IsReadOfKind : Text → Environment → List Struct → Declaration → TypeKind → Type 0
IsReadOfKind t env structs d (kind.Struct index) = IsReadAs t env structs d index
IsReadOfKind t env structs d other = ⊥

-- aliases and structs alone stand for types, an alias for the one that is written behind its name
abbrev pub IsTypeBy : Text → Environment → Declaration → MeasuredType → Type 0
IsTypeBy t env d ty = (d.kind ≡ kinds.Struct) ⊎ ((d.kind ≡ kinds.Alias) × HasType t env d.rest.now ty)

-- overrides and constants alone stand for values: one that is known later, or the constant's
abbrev pub IsValueBy : Text → Environment → Declaration → Value → Type 0
IsValueBy t env d v = ((d.kind ≡ kinds.Override) × (v ≡ value.Later)) ⊎ ((d.kind ≡ kinds.Constant) × HasConstant t env d.rest.now v)

abbrev pub IsOfSort : Text → Environment → Declaration → Meaning → Type 0
IsOfSort t env d (meaning.«Type» ty) = IsTypeBy t env d ty
IsOfSort t env d (meaning.Value v) = IsValueBy t env d v
IsOfSort t env d _ = Unit {0}

-- what a constant stands for with this value, in its type if one is declared
abbrev pub IsConstantOf : Text → (List ℕ → Option Meaning) → List Event → Option MeasuredType → Meaning → Type 0
IsConstantOf t named events ty (meaning.Value v) = HasInitial t named events ty v
IsConstantOf t named events ty (meaning.«Type» declared) = ⊥
IsConstantOf t named events ty _ = Unit {0}

-- the declaration that can be read means a type: a struct the one that is read of it
pub record IsMeantType (t : Text) (env : Environment) (structs : List Struct) (d : Declaration) (ty : MeasuredType) : Type 0 where
  pub readable : d.is_faulty ≡ false
  pub sort : IsTypeBy t env d ty
  pub struct : d.kind ≡ kinds.Struct → IsReadOfKind t env structs d ty.kind

-- what a declaration means
abbrev pub IsMeant : Text → Environment → List Struct → Declaration → Meaning → Type 0
IsMeant t env structs d (meaning.«Type» ty) = IsMeantType t env structs d ty
IsMeant t env structs d (meaning.Value v) = (d.is_faulty ≡ false) × IsValueBy t env d v
IsMeant t env structs d _ = Unit {0}

abbrev pub IsNothing : Declaration → Meaning → Type 0
IsNothing d (meaning.«Type» ty) = ⊥
IsNothing d (meaning.Value v) = ⊥
IsNothing d _ = Unit {0}

pub data AreMeantBy (Is : Declaration → Meaning → Type 0) : List Declaration → List Meaning → Type 0 where
  none_meant : AreMeantBy Is [] []
  one_meant : {d : Declaration} {m : Meaning} {ds : List Declaration} {ms : List Meaning} → Is d m → AreMeantBy Is ds ms → AreMeantBy Is (d ∷ ds) (m ∷ ms)

abbrev pub AreMeant : Text → Environment → List Struct → List Declaration → List Meaning → Type 0
AreMeant t env structs = AreMeantBy (IsMeant t env structs)

abbrev pub AreAllMeant : List Declaration → Reader → Type 0
AreAllMeant ds r = AreMeant r.scope.text (environment r.scope r.types) r.structs.items ds r.scope.meanings.items

-- no declaration means a type or a value yet
abbrev pub AreNothing : List Declaration → Reader → Type 0
AreNothing ds r = AreMeantBy IsNothing ds r.scope.meanings.items

-- the declaration with this index stands for the type that it means
abbrev pub IsMeantAt : Scope → Types → ℕ → Declaration → Type 0
IsMeantAt s types index d = (ty : MeasuredType) → slice_get s.meanings.items index ≡ Some (meaning.«Type» ty) → IsTypeBy s.text (environment s types) d ty

-- the declarations go on to mean that
pub record Means (ds : List Declaration) (old new : Reader) : Type 0 where
  pub still : AreAllMeant ds old → AreAllMeant ds new

-- the structs of declarations are, in order, at these indices, or are left out under these names
pub data AreListed (t : Text) (env : Environment) (structs : List Struct) : List Declaration → List ℕ → List (List ℕ) → Type 0 where
  none_listed : AreListed t env structs [] [] []
  other_listed : {d : Declaration} {ds : List Declaration} {indices : List ℕ} {names : List (List ℕ)} → d.kind ≢ kinds.Struct
      → AreListed t env structs ds indices names → AreListed t env structs (d ∷ ds) indices names
  kept_listed : {d : Declaration} {ds : List Declaration} {index : ℕ} {indices : List ℕ} {names : List (List ℕ)} → d.kind ≡ kinds.Struct
      → IsReadAs t env structs d index → AreListed t env structs ds indices names → AreListed t env structs (d ∷ ds) (index ∷ indices) names
  left_listed : {d : Declaration} {ds : List Declaration} {indices : List ℕ} {names : List (List ℕ)} → d.kind ≡ kinds.Struct
      → AreListed t env structs ds indices names → AreListed t env structs (d ∷ ds) indices (d.name.now ∷ names)

abbrev pub names_of : Listed → List (List ℕ)
names_of l = map (λ name. name.now) l.left_out.items

-- these declarations are listed behind those that are
pub record Lists (t : Text) (env : Environment) (structs : List Struct) (ds : List Declaration) (old new : Listed) : Type 0 where
  pub indices : List ℕ
  pub names : List (List ℕ)
  pub more_indices : new.in_text.items ≡ old.in_text.items ++ indices
  pub more_names : names_of new ≡ names_of old ++ names
  pub are : AreListed t env structs ds indices names
