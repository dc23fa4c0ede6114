-- The structs that a module keeps (WGSL, "Structure Types").
use Rattle.std.specs.Prelude.{◌≡◌, ◌++◌, ◌↔◌, IsTrue, List, [], ◌∷◌, length}
use Rattle.std.specs.List.{All}
use Rattle.wgsl_reader.specs.declared.read.Event.{Event}
use Rattle.wgsl_source.specs.TextStructs.{IsDeclared}
use Rattle.wgsl_source.specs.Layout.{IsLaidOut}
use Rattle.wgsl_source.specs.Members.{AreMeasured, EndsRuntimeSized, Grows, IsTypeOf}
use Rattle.wgsl_source.specs.WrittenTypes.{Environment, environment}
use Rattle.wgsl_source.specs.internal.Read.{IsFrom, Stays}
use Rattle.wgsl_source.specs.declared.declaration.Declaration.{Declaration}
use Rattle.wgsl_source.specs.declared.measured.MeasuredType.{MeasuredType}
use Rattle.wgsl_source.specs.declared.reader.Reader.{Reader}
use Rattle.wgsl_source.specs.declared.scope.Meaning.{Meaning}
use Rattle.wgsl_source.specs.declared.scope.Meaning.TheVariants as meaning
use Rattle.wgsl_source.specs.declared.structure.Struct.{Struct}
use Rattle.wgsl_source.specs.declared.text.Text.{Text}

-- a struct has the layout of its members, these the sizes and alignments of their attributes or of their types, and it is
-- noted whether the last one is a runtime-sized array
pub record IsStructOf (elements : List MeasuredType) (s : Struct) : Type 0 where
  pub layout : IsLaidOut s.members.items s.size s.align
  pub measured : AreMeasured elements s.members.items
  pub runtime_sized : IsTrue s.is_runtime_sized ↔ EndsRuntimeSized s.members.items

-- the structs of a module, which has these element types
abbrev pub AreStructsOf : List MeasuredType → List Struct → Type 0
AreStructsOf elements structs = All (IsStructOf elements) structs

-- the struct of a declaration is read and kept behind those that are there, and its type has its index
pub record IsKept (t : Text) (env : Environment) (d : Declaration) (old new : List Struct) (m : Meaning) : Type 0 where
  pub struct : Struct
  pub from : IsFrom t env d struct
  pub kept : new ≡ old ++ struct ∷ []
  pub type : MeasuredType
  pub named : m ≡ meaning.«Type» type
  pub is : IsTypeOf struct (length old) type

-- the text, element types and structs stay as they are
abbrev pub SameStructs : Reader → Reader → Type 0
SameStructs old new = (new.types.elements ≡ old.types.elements) × (new.structs ≡ old.structs) × (new.scope.text ≡ old.scope.text)

-- Structs are only added, behind those that are there. If the declarations are those of the text, so are the structs.
pub record Keeps (Known : Text → List Event → Type 0) (old new : Reader) : Type 0 where
  pub grows : Grows old.types new.types
  pub added : List Struct
  pub kept : new.structs.items ≡ old.structs.items ++ added
  pub laid_out : AreStructsOf new.types.elements.items added
  pub text : new.scope.text ≡ old.scope.text
  pub names : Stays old.scope new.scope
  pub declared : (whole : List Event) → Known old.scope.text whole → All (IsDeclared old.scope.text (environment new.scope new.types) whole) added

-- the same behind the declarations' names
pub record KeepsNamed (Known : Text → List Event → Type 0) (old new : Reader) : Type 0 where
  pub named : Reader
  pub same : SameStructs old named
  pub keeps : Keeps Known named new
