-- What is told of a module by what the grammar reads of it alone (WGSL, "Control Flow", "Behaviors"), and that each expression of a
-- module without faults has a type.
use Rattle.std.specs.Prelude.{◌≡◌, List, [], ◌∷◌, ◌++◌, All, Bool, true, false, Option, Some, None, cond, map}
use Rattle.wgsl_module.specs.Control.{AreAllowed, told_of}
use Rattle.wgsl_module.specs.Told.{AreTold, Broken, unread}
use Rattle.wgsl_typing.specs.declared.fault.Fault.{Fault}
use Rattle.wgsl_typing.specs.declared.fault.Place.{Place}
use Rattle.wgsl_typing.specs.declared.fault.Rule.TheVariants as rules
use Rattle.wgsl_typing.specs.declared.known.Known.{Known}
use Rattle.wgsl_typing.specs.declared.known.Known.TheVariants as knowns
use Rattle.wgsl_typing.specs.declared.known.Outcome.{Outcome}
use Rattle.wgsl_typing.specs.declared.known.Outcome.TheVariants.{Faulty}
use Rattle.wgsl_typing.specs.declared.known.Part.{Part}
use Rattle.wgsl_reader.specs.Modules.{ReadsModule}
use Rattle.wgsl_reader.specs.Reading.{kind_of}
use Rattle.wgsl_reader.specs.declared.module.Misread.{Misread}
use Rattle.wgsl_reader.specs.declared.read.Event.{Event}
use Rattle.wgsl_reader.specs.declared.token.Token.{Token}

-- each declaration that the grammar doesn't read, and in the others where control can't go on as a statement says
abbrev pub told_of_reading : List Token → List Event → List Misread → List Broken
told_of_reading tokens events misread = map unread misread ++ told_of tokens events

-- of a module with these tokens all of this is told
abbrev pub TellsReading : List Token → List Fault → Type 0
TellsReading tokens faults = (events : List Event) × (misread : List Misread) × ReadsModule (map kind_of tokens) events misread
    × AreTold (told_of_reading tokens events misread) faults

-- By the grammar these tokens are a module, and each of its statements is allowed where it stands.
abbrev pub IsRead : List Token → Type 0
IsRead tokens = (events : List Event) × ReadsModule (map kind_of tokens) events [] × AreAllowed tokens events

-- Expressions

-- without a type, and no call of a function without a result
abbrev pub is_faulty : Outcome → Bool
is_faulty Faulty = true
is_faulty other = false

-- each expression has a type, or is a call of a function without a result
abbrev pub AreTyped : List Part → Type 0
AreTyped parts = All (λ part. is_faulty part.outcome ≡ false) parts

abbrev pub first_faulty : List Part → Option Place
first_faulty [] = None
first_faulty (part ∷ parts) = cond (is_faulty part.outcome) (Some part.place) (first_faulty parts)

abbrev pub untyped : Option Place → List Broken
untyped None = []
untyped (Some place) = record { rule = rules.Type; place = place } ∷ []

-- whether it is known what each of these names stands for
abbrev pub is_unknown : Known → Bool
is_unknown knowns.Faulty = true
is_unknown other = false

abbrev pub are_known : {Name : Type 0} → List (Name × Known) → Bool
are_known [] = true
are_known (given ∷ others) = cond (is_unknown given.1) false (are_known others)

-- If nothing else is told of a module, and all that it names is known, the first expression that is faulty is.
abbrev pub or_untyped : Bool → List Part → List Broken → List Broken
or_untyped true parts [] = untyped (first_faulty parts)
or_untyped is_known parts told = told
