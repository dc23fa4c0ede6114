-- The expressions of a module, run by run: each run is that of the events of a declaration, or of a function's body.
use Rattle.std.specs.Prelude.{◌≡◌, ℕ, List, [], ◌∷◌, ◌++◌, Bool, true, false, Option, Some, None, length, map, slice_get}
use Rattle.wgsl_module.specs.Declarations.{Written, written_in}
use Rattle.wgsl_module.specs.Blocks.{Binds, Closes, Opens, locals_in, with_blocks, with_locals, with_loops, with_skipped}
use Rattle.wgsl_module.specs.Directives.{Directs}
use Rattle.wgsl_module.specs.Meanings.{Ends}
use Rattle.wgsl_module.specs.Named.{first_called, is_colon, named_by}
use Rattle.wgsl_module.specs.Noted.{Comes}
use Rattle.wgsl_module.specs.Order.{HasEach, IsBehind, IsInTurn}
use Rattle.wgsl_module.specs.States.{Keeps, State, cleared, with_meaning, with_names}
use Rattle.wgsl_module.specs.declared.declaration.DeclarationKind.{DeclarationKind}
use Rattle.wgsl_module.specs.declared.declaration.DeclarationKind.TheVariants as kinds
use Rattle.wgsl_typing.specs.declared.expressions.Named.{Named}
use Rattle.wgsl_typing.specs.declared.fault.Fault.{Fault}
use Rattle.wgsl_typing.specs.declared.known.Known.{Known}
use Rattle.wgsl_typing.specs.declared.known.Known.TheVariants.{Faulty}
use Rattle.wgsl_typing.specs.declared.known.Part.{Part}
use Rattle.wgsl_typing.specs.declared.known.Typed.{Typed}
use Rattle.wgsl_typing.specs.Extensions.{none_enabled}
use Rattle.wgsl_typing.specs.Scopes.{scope_view}
use Rattle.wgsl_typing.specs.StructNames.{index_of}
use Rattle.wgsl_typing.specs.Words.{kind_of_any}
use Rattle.wgsl_reader.specs.Modules.{ReadsModule}
use Rattle.wgsl_reader.specs.Reading.{kind_of}
use Rattle.wgsl_reader.specs.declared.mark.Mark.{Mark}
use Rattle.wgsl_reader.specs.declared.mark.Mark.TheVariants as m
use Rattle.wgsl_reader.specs.declared.module.Misread.{Misread}
use Rattle.wgsl_reader.specs.declared.read.Event.{Event}
use Rattle.wgsl_reader.specs.declared.token.Token.{Token}

-- Declarations

-- what comes of the events of a declaration, of a directive and of its end, and what its name stands for
abbrev pub Declares : List Token → DeclarationKind → List Event → Known → State → State → Type 0
Declares tokens kind events known s r = (first : State) × (last : State) × Directs kind events s first × Comes tokens events first last × Ends kind known last r

-- What the grammar doesn't read is faulty.
abbrev pub DeclaresIf : List Token → Option Written → Known → State → State → Type 0
DeclaresIf tokens (Some d) known s r = Declares tokens d.kind d.events known s r
DeclaresIf tokens None known s r = Keeps s r × (known ≡ Faulty)

-- The one with an index is read from an empty stack on. Its name stands for that from then on.
abbrev pub IsDeclaration : List Token → ℕ → Option Written → State → State → Type 0
IsDeclaration tokens index d s r = (end : State) × (known : Known) × DeclaresIf tokens d known (cleared s) end × (r ≡ with_meaning index (Some known) end)

-- what comes of the declarations with these indices, one behind the other
abbrev pub AreDeclarations : List Token → List Written → List ℕ → State → State → Type 0
AreDeclarations tokens ds [] s r = r ≡ s
AreDeclarations tokens ds (index ∷ order) s r = (between : State) × IsDeclaration tokens index (slice_get ds index) s between × AreDeclarations tokens ds order between r

-- Bodies

-- no block of a function is open, and no loop
abbrev pub outside : State → State
outside s = with_loops [] (with_blocks [] (with_skipped (0, 0) (cleared s)))

-- a block for the parameters of a function
abbrev pub Enters : State → State → Type 0
Enters s r = Opens (locals_in s) (locals_in r) × (r ≡ with_locals (locals_in r) (outside s))

-- a parameter stands in front of a colon
abbrev pub is_parameter : List Token → Mark → ℕ → Bool
is_parameter tokens m.Name at = is_colon (kind_of_any (slice_get tokens at))
is_parameter tokens other at = false

-- As what it is declared isn't said here.
abbrev pub IsParameterIf : Bool → ℕ → State → State → Type 0
IsParameterIf true at s r = (typed : Option Typed) × Binds at typed s r
IsParameterIf false at s r = Keeps s r

-- the parameters among the events in front of a body
abbrev pub AreParameters : List Event → State → State → Type 0
AreParameters [] s r = Keeps s r
AreParameters (e ∷ events) s r = (between : State) × IsParameterIf (is_parameter s.stack.context.tokens e.mark e.at) e.at s between
    × AreParameters events between r

-- The parameters are in scope where a body begins.
abbrev pub BeginsBody : List Event → State → State → Type 0
BeginsBody own s r = (entered : State) × Enters s entered × AreParameters own entered r

-- none of its names is in scope behind it
abbrev pub EndsBody : State → State → Type 0
EndsBody s r = Closes (locals_in s) (locals_in r) × (r ≡ with_locals (locals_in r) s)

-- what comes of the events of a body, behind the function's own
abbrev pub IsRun : List Token → List Event → List Event → State → State → Type 0
IsRun tokens own body s r = (first : State) × (last : State) × BeginsBody own s first × Comes tokens body first last × EndsBody last r

-- the body of a function; nothing else has one
abbrev pub IsBody : List Token → DeclarationKind → List Event → List Event → State → State → Type 0
IsBody tokens kinds.Function own body s r = IsRun tokens own body s r
IsBody tokens other own body s r = Keeps s r

abbrev pub IsBodyOf : List Token → Option Written → State → State → Type 0
IsBodyOf tokens (Some d) s r = IsBody tokens d.kind d.events d.body s r
IsBodyOf tokens None s r = Keeps s r

-- the bodies of these declarations, one behind the other
abbrev pub AreBodies : List Token → List Written → State → State → Type 0
AreBodies tokens [] s r = Keeps s r
AreBodies tokens (d ∷ ds) s r = (between : State) × IsBody tokens d.kind d.events d.body s between × AreBodies tokens ds between r

-- A module

-- A name that declarations have stands for the first of these. What others stand for, which are given to the check, isn't said here.
abbrev pub AreNamed : State → List Written → Type 0
AreNamed s ds = (name : List ℕ) (index : ℕ) → first_called s.stack.context.text s.stack.context.tokens ds name ≡ Some index
    → index_of name s.stack.context.names ≡ Some index

-- It is known where each is declared, and not yet what it stands for. Behind them stand others, which aren't said here.
abbrev pub as_unread : Written → Named
as_unread d = record { named = d.named; known = None }

abbrev pub AreUnread : State → List Written → Type 0
AreUnread s ds = (more : List Named) × (s.stack.context.declared ≡ map as_unread ds ++ more)

-- its declarations, each once, in the order of the text but behind those that it names, except for one of these cycles, and behind them
-- the bodies of its functions, in the order of the text
abbrev pub IsModule : List ℕ → List Token → List Written → State → State → Type 0
IsModule cycles tokens ds s r = (order : List ℕ) × (between : State) × HasEach 0 (length ds) order
    × IsBehind (named_by s.stack.context ds) cycles order × IsInTurn (named_by s.stack.context ds) 0 (length ds) order
    × AreDeclarations tokens ds order s between × AreBodies tokens ds between r × AreNamed s ds
    × AreUnread s ds

-- nothing is read of this text, which has these tokens: no function has names, and no extension is enabled
abbrev pub IsUnread : List ℕ → List Token → State → Type 0
IsUnread text tokens s = (s.stack.parts ≡ []) × (s.stack.context.text ≡ text) × (s.stack.context.tokens ≡ tokens) × (scope_view (locals_in s) ≡ [] ∷ [])
    × (s.stack.context.extensions ≡ none_enabled)

-- nothing is read but names of the module
abbrev pub IsUnreadAs : State → State → Type 0
IsUnreadAs s r = r.stack ≡ with_names r.stack.context.names r.stack.context.declared s.stack

-- the expressions of a module by its events, which are read from a state on: one with these faults, and without cycles if it has none
abbrev pub ReadsFrom : List Token → List Event → List Fault → State → List Part → Type 0
ReadsFrom tokens events faults s parts = (before : State) × (after : State) × (cycles : List ℕ) × IsUnreadAs s before
    × IsModule cycles tokens (written_in false events) before after × (parts ≡ after.stack.parts) × (faults ≡ [] → cycles ≡ [])

-- the expressions of a module, by its events
abbrev pub HasRuns : List ℕ → List Token → List Event → List ℕ → List Part → Type 0
HasRuns text tokens events cycles parts = (before : State) × (after : State) × IsUnread text tokens before
    × IsModule cycles tokens (written_in false events) before after × (parts ≡ after.stack.parts)

-- the expressions of a module, by what the grammar reads of it: one with these faults, and without cycles if it has none
abbrev pub HasParts : List ℕ → List Token → List Fault → List Part → Type 0
HasParts text tokens faults parts = (events : List Event) × (misread : List Misread) × (cycles : List ℕ) × ReadsModule (map kind_of tokens) events misread
    × HasRuns text tokens events cycles parts × (faults ≡ [] → cycles ≡ [])
