-- Which events of a module end a declaration, and which are the bodies of its functions (WGSL, "Declaration and Scope").
use Rattle.std.specs.Prelude.{ℕ, ◌+◌, ◌-◌, ◌&&◌, List, [], ◌∷◌, Bool, true, false, ◌||◌, Option, Some, None, cond, nat_eq, slice_range}
use Rattle.wgsl_module.specs.declared.declaration.Declaration.{Declaration}
use Rattle.wgsl_module.specs.declared.declaration.DeclarationKind.{DeclarationKind}
use Rattle.wgsl_module.specs.declared.declaration.DeclarationKind.TheVariants as kinds
use Rattle.wgsl_reader.specs.declared.mark.Mark.{Mark}
use Rattle.wgsl_reader.specs.declared.mark.Mark.TheVariants as m
use Rattle.wgsl_reader.specs.declared.read.Event.{Event}

-- the declaration that ends at an event, where that is no statement in a function
abbrev pub kind_of : Mark → Option DeclarationKind
kind_of m.Alias = Some kinds.Alias
kind_of m.Struct = Some kinds.Struct
kind_of m.Const = Some kinds.Const
kind_of m.ConstAssert = Some kinds.Assertion
kind_of m.Override = Some kinds.Override
kind_of m.Variable = Some kinds.Variable
kind_of m.Function = Some kinds.Function
kind_of m.Enable = Some kinds.Enable
kind_of m.Requires = Some kinds.Directive
kind_of m.DiagnosticDirective = Some kinds.Directive
kind_of other = None

-- In the body of a function nothing ends but the function.
abbrev pub ended : Mark → Bool → Option DeclarationKind
ended m.Function in_body = Some kinds.Function
ended mark true = None
ended mark false = kind_of mark

-- what stands in front of the body of a function, and of the blocks in it
abbrev pub begins : Mark → Bool
begins m.Begin = true
begins other = false

-- a declaration: its name, if it has one, by the number of tokens up to it, and its events but the last one, of which those of a
-- function's body stand apart
pub record Written : Type 0 where
  pub kind : DeclarationKind
  pub named : Option ℕ
  pub events : List Event
  pub body : List Event

abbrev pub written : Declaration → Written
written d = record { kind = d.kind; named = d.named; events = d.events.now; body = d.body.now }

abbrev pub is_name : Mark → Bool
is_name m.Name = true
is_name other = false

-- how many attributes and template lists are open behind an event
abbrev pub deeper : Mark → ℕ → ℕ
deeper m.AttributeName depth = depth + 1
deeper m.OpenTemplate depth = depth + 1
deeper m.Attribute depth = depth - 1
deeper m.Template depth = depth - 1
deeper other depth = depth

-- the first name outside of them
abbrev pub name_in : ℕ → List Event → Option ℕ
name_in depth [] = None
name_in depth (e ∷ events) = cond (is_name e.mark && nat_eq depth 0) (Some e.at) (name_in (deeper e.mark depth) events)

-- the name of a declaration: `const_assert` has none
abbrev pub name_of : DeclarationKind → List Event → Option ℕ
name_of kinds.Assertion events = None
name_of other events = name_in 0 events

abbrev pub with_name : DeclarationKind → List Event → List Event → Written
with_name kind events body = record { kind = kind; named = name_of kind events; events = events; body = body }

-- one event more in front of the first declaration, or of its body
abbrev pub with_event : Bool → Event → List Written → List Written
with_event in_body e [] = []
with_event false e (d ∷ ds) = with_name d.kind (e ∷ d.events) d.body ∷ ds
with_event true e (d ∷ ds) = with_name d.kind d.events (e ∷ d.body) ∷ ds

abbrev pub with_end : Option DeclarationKind → Bool → Event → List Written → List Written
with_end (Some kind) in_body e ds = with_name kind [] [] ∷ ds
with_end None in_body e ds = with_event in_body e ds

abbrev pub unless_ended : Option DeclarationKind → Bool → Bool
unless_ended (Some kind) in_body = false
unless_ended None in_body = in_body

-- the declarations of events, the first of which may stand in a body
abbrev pub written_in : Bool → List Event → List Written
written_in in_body [] = []
written_in in_body (e ∷ events) = with_end (ended e.mark in_body) (in_body || begins e.mark) e
    (written_in (unless_ended (ended e.mark in_body) (in_body || begins e.mark)) events)

-- where the body begins that is read behind an event
abbrev pub begun : Mark → ℕ → Option ℕ → Option ℕ
begun mark index None = cond (begins mark) (Some index) None
begun mark index (Some from) = Some from

-- what is read of it
abbrev pub body_up_to : List Event → Option ℕ → ℕ → List Event
body_up_to events None index = []
body_up_to events (Some from) index = slice_range events from index
