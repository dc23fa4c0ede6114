-- What a statement that is read does to those that are open, and what of it is wrong by where control goes on (WGSL, "Control
-- Flow", "Behaviors").
use Rattle.std.specs.Prelude.{ℕ, List, [], ◌∷◌, Bool, true, false, Option, Some, None, cond, option_map}
use Rattle.wgsl_module.specs.Behaviours.{break_alone, continue_alone, either, goes_on, looped, may_break, never_ends, nowhere, return_alone, switched}
use Rattle.wgsl_module.specs.Flow.{begun_on, below, block_on, body_on, clauses_on, ended, if_on, with_body, with_continuing, without_returned}
use Rattle.wgsl_module.specs.declared.behaviour.Behaviour.{Behaviour}
use Rattle.wgsl_module.specs.declared.frame.Around.{Around}
use Rattle.wgsl_module.specs.declared.frame.Frame.{Frame}
use Rattle.wgsl_module.specs.declared.frame.Frame.TheVariants as frames
use Rattle.wgsl_reader.specs.declared.kind.Kind.{Kind}
use Rattle.wgsl_reader.specs.declared.kind.Kind.TheVariants as kinds

-- Begin

-- around the statements of a function
abbrev pub in_function : Around
in_function = record { may_break = false; may_continue = false; in_continuing = false }

-- what is around the statements of a loop, of a `switch` and of a `continuing`
abbrev pub inside : Kind → Around → Around
inside kinds.For a = record { may_break = true; may_continue = true; in_continuing = a.in_continuing }
inside kinds.While a = record { may_break = true; may_continue = true; in_continuing = a.in_continuing }
inside kinds.Loop a = record { may_break = true; may_continue = true; in_continuing = a.in_continuing }
inside kinds.Switch a = record { may_break = true; may_continue = a.may_continue; in_continuing = a.in_continuing }
inside kinds.Continuing a = record { may_break = false; may_continue = false; in_continuing = true }
inside word a = a

-- the words of statements with blocks
abbrev pub has_blocks : Kind → Bool
has_blocks kinds.For = true
has_blocks kinds.While = true
has_blocks kinds.Loop = true
has_blocks kinds.Switch = true
has_blocks kinds.Continuing = true
has_blocks kinds.If = true
has_blocks word = false

-- the word is the last of that many tokens
abbrev pub began : Kind → ℕ → Around → List Frame → List Frame
began word at around fs = cond (has_blocks word) (frames.Begun at around false ∷ fs) fs

-- what is around behind the statement on top: what was around it
abbrev pub outside_of : Option (ℕ × Around × Bool) → Around → Around
outside_of None around = around
outside_of (Some b) around = b.1

-- where the word of that statement is
abbrev pub word_of : Option (ℕ × Around × Bool) → ℕ
word_of None = 0
word_of (Some b) = b.0

-- Blocks

-- A block that is closed; that of a function's body leaves nothing open.
abbrev pub body_closed : Behaviour → List Frame → List Frame
body_closed b [] = []
body_closed b (f ∷ fs) = with_body b (f ∷ fs)

abbrev pub closed_as : Option Behaviour → List Frame → List Frame
closed_as None fs = fs
closed_as (Some b) fs = body_closed b fs

abbrev pub block_closed : List Frame → List Frame
block_closed fs = closed_as (block_on fs) (below fs)

-- control may come to the end of a function's body
abbrev pub may_fall_off : List Frame → Bool
may_fall_off (frames.Block b ∷ []) = b.next
may_fall_off fs = false

-- Ends

abbrev pub if_ended : List Frame → List Frame
if_ended fs = ended (if_on fs) (below (below fs))

abbrev pub continuing_ended : List Frame → List Frame
continuing_ended fs = with_continuing (body_on fs) (below (below fs))

-- what a loop does whose body is on top
abbrev pub loop_on : List Frame → Option Behaviour
loop_on fs = option_map (λ b. looped b.2 (body_on fs)) (begun_on (below fs))

abbrev pub ended_as : Option Behaviour → List Frame → List Frame
ended_as None fs = fs
ended_as (Some b) fs = ended b fs

abbrev pub loop_ended : List Frame → List Frame
loop_ended fs = ended_as (loop_on fs) (below (below fs))

-- `loop { }` is wrong: no way leads on
abbrev pub goes_nowhere : Option Behaviour → Bool
goes_nowhere None = false
goes_nowhere (Some b) = never_ends b

-- Jumps

-- `break;` stands in a loop or a `switch`. One that would end a loop from its `continuing` is wrong, and does what `break if` does;
-- any other that is wrong does nothing.
abbrev pub broken_off : Around → Behaviour
broken_off a = cond a.may_break break_alone (cond a.in_continuing may_break goes_on)

-- `continue;` stands in a loop, and not across a `continuing`. One that is wrong does nothing.
abbrev pub continued : Around → Behaviour
continued a = cond a.may_continue continue_alone goes_on

-- `return;`, `return x;`
abbrev pub return_ended : List Frame → List Frame
return_ended fs = ended return_alone (without_returned fs)

-- Switches

-- the value behind `switch` is read: it has no clause yet
abbrev pub switch_opened : List Frame → List Frame
switch_opened fs = frames.Clauses nowhere false ∷ fs

-- `case 1 { }`, `default { }`: what any of the clauses does
abbrev pub with_clause : List Frame → List Frame
with_clause fs = frames.Clauses (either (clauses_on (below fs)).0 (body_on fs)) (clauses_on (below fs)).1 ∷ below (below fs)

-- `default`, of which there is one
abbrev pub with_default : List Frame → List Frame
with_default (frames.Clauses b has_default ∷ fs) = frames.Clauses b true ∷ fs
with_default fs = fs

abbrev pub switch_ended : List Frame → List Frame
switch_ended fs = ended (switched (clauses_on fs).0) (below (below fs))
