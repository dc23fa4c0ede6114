-- Statements that are open, the innermost first, and where control goes on from what is read of them (WGSL, "Control Flow",
-- "Behaviors").
use Rattle.std.specs.Prelude.{ℕ, List, [], ◌∷◌, Bool, true, false, Option, Some, None, reverse}
use Rattle.wgsl_module.specs.Behaviours.{continued_by, either, followed_by, goes_on, nowhere}
use Rattle.wgsl_module.specs.declared.behaviour.Behaviour.{Behaviour}
use Rattle.wgsl_module.specs.declared.flow.Flow.{Flow}
use Rattle.wgsl_module.specs.declared.frame.Around.{Around}
use Rattle.wgsl_module.specs.declared.frame.Frame.{Frame}
use Rattle.wgsl_module.specs.declared.frame.Frame.TheVariants as frames
use Rattle.wgsl_reader.specs.declared.kind.Kind.{Kind}
use Rattle.wgsl_reader.specs.declared.kind.Kind.TheVariants.{OpenCurly}

-- the statements that are open
abbrev pub statements : Flow → List Frame
statements flow = reverse flow.frames.items

abbrev pub are_none : List Frame → Bool
are_none [] = true
are_none (f ∷ fs) = false

abbrev pub first : {A : Type 0} → List A → Option A
first [] = None
first (a ∷ rest) = Some a

abbrev pub below : {A : Type 0} → List A → List A
below [] = []
below (a ∷ rest) = rest

-- A statement is read: what it does, the block around it does too. In front of a `for`'s body it does nothing.
abbrev pub ended : Behaviour → List Frame → List Frame
ended b (frames.Block a ∷ fs) = frames.Block (followed_by a b) ∷ fs
ended b (frames.Body a ∷ fs) = frames.Body b ∷ frames.Body a ∷ fs
ended b fs = fs

-- the body on top
abbrev pub body_on : List Frame → Behaviour
body_on (frames.Body b ∷ fs) = b
body_on fs = goes_on

-- `else { }`, `else if`: both ways
abbrev pub with_else : List Frame → List Frame
with_else fs = frames.Choice (either (body_on (below fs)) (body_on fs)) ∷ below (below fs)

-- `if`: without `else` it may go on
abbrev pub if_on : List Frame → Behaviour
if_on (frames.Choice b ∷ fs) = b
if_on (frames.Body b ∷ fs) = either b goes_on
if_on fs = goes_on

-- the clauses on top, and whether one of them is `default`
abbrev pub clauses_on : List Frame → Behaviour × Bool
clauses_on (frames.Clauses b has_default ∷ fs) = (b, has_default)
clauses_on fs = (nowhere, false)

-- the `{` of a block, and not the `(` of a call
abbrev pub opened : Kind → List Frame → List Frame
opened OpenCurly fs = frames.Block goes_on ∷ fs
opened bracket fs = fs

abbrev pub is_block : List Frame → Bool
is_block (frames.Block b ∷ fs) = true
is_block fs = false

-- what the block on top does so far
abbrev pub block_on : List Frame → Option Behaviour
block_on (frames.Block b ∷ fs) = Some b
block_on fs = None

-- a block that is closed is a statement of the block around it, or the body of what is open
abbrev pub with_body : Behaviour → List Frame → List Frame
with_body b (frames.Block a ∷ fs) = frames.Block (followed_by a b) ∷ fs
with_body b fs = frames.Body b ∷ fs

-- the statement on top
abbrev pub begun_on : List Frame → Option (ℕ × Around × Bool)
begun_on (frames.Begun at around has_condition ∷ fs) = Some (at, around, has_condition)
begun_on fs = None

-- `while c`, `for (; c;)`
abbrev pub with_condition : List Frame → List Frame
with_condition (frames.Begun at around has_condition ∷ fs) = frames.Begun at around true ∷ fs
with_condition fs = fs

-- `continuing { }`: what the body does with it
abbrev pub with_continuing : Behaviour → List Frame → List Frame
with_continuing b (frames.Block a ∷ fs) = frames.Block (continued_by a b) ∷ fs
with_continuing b fs = fs

-- `return x;`, and not `return;`
abbrev pub is_returned : List Frame → Bool
is_returned (frames.Returned ∷ fs) = true
is_returned fs = false

abbrev pub without_returned : List Frame → List Frame
without_returned (frames.Returned ∷ fs) = fs
without_returned fs = fs
