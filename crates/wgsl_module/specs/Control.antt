-- Where control goes on in the functions of a module, event by event, and what is told of it (WGSL, "Control Flow", "Behaviors").
use Rattle.std.specs.Prelude.{◌≡◌, ℕ, ◌-◌, List, [], ◌∷◌, ◌++◌, Bool, true, false, cond, map, not, ◌&&◌}
use Rattle.wgsl_module.specs.Behaviours.{goes_on, may_break}
use Rattle.wgsl_module.specs.Flow.{begun_on, below, clauses_on, ended, is_returned, opened, statements, with_condition, with_else}
use Rattle.wgsl_module.specs.Statements.{began, block_closed, broken_off, continued, continuing_ended, goes_nowhere, if_ended, in_function, inside, loop_ended, loop_on, may_fall_off, outside_of, return_ended, switch_ended, switch_opened, with_clause, with_default, word_of}
use Rattle.wgsl_module.specs.Told.{Broken, broken}
use Rattle.wgsl_module.specs.declared.control.Control.{Control}
use Rattle.wgsl_module.specs.declared.frame.Around.{Around}
use Rattle.wgsl_module.specs.declared.frame.Frame.{Frame}
use Rattle.wgsl_module.specs.declared.frame.Frame.TheVariants.{Returned}
use Rattle.wgsl_typing.specs.Faults.{last_of}
use Rattle.wgsl_typing.specs.declared.fault.Place.{Place}
use Rattle.wgsl_typing.specs.declared.fault.Rule.{Rule}
use Rattle.wgsl_typing.specs.declared.fault.Rule.TheVariants as rules
use Rattle.wgsl_reader.specs.declared.kind.Kind.{Kind}
use Rattle.wgsl_reader.specs.declared.mark.Mark.{Mark}
use Rattle.wgsl_reader.specs.declared.mark.Mark.TheVariants as m
use Rattle.wgsl_reader.specs.declared.read.Event.{Event}
use Rattle.wgsl_reader.specs.declared.token.Token.{Token}
use Rattle.wgsl_typing.specs.Words.{kind_at}

-- one more where something is wrong
abbrev pub told_if : Bool → Rule → Place → List Broken → List Broken
told_if wrong rule place told = cond wrong (told ++ (record { rule = rule; place = place } ∷ [])) told

-- The statements of a function that are read

pub record State : Type 0 where
  pub frames : List Frame
  pub around : Around
  pub has_result : Bool
  pub told : List Broken

abbrev pub state : Control → State
state c = record { frames = statements c.flow; around = c.around; has_result = c.has_result; told = map broken c.faults.items }

-- outside of functions
abbrev pub outside : State
outside = record { frames = []; around = in_function; has_result = false; told = [] }

-- The statements that are open behind an event, whose last token is of this kind.
abbrev pub frames_by : Kind → Mark → ℕ → Around → List Frame → List Frame
frames_by word m.Let at around fs = ended goes_on fs
frames_by word m.Const at around fs = ended goes_on fs
frames_by word m.Variable at around fs = ended goes_on fs
frames_by word m.ConstAssert at around fs = ended goes_on fs
frames_by word m.Assign at around fs = ended goes_on fs
frames_by word m.AssignBy at around fs = ended goes_on fs
frames_by word m.Increment at around fs = ended goes_on fs
frames_by word m.Decrement at around fs = ended goes_on fs
frames_by word m.Phony at around fs = ended goes_on fs
frames_by word m.CallStatement at around fs = ended goes_on fs
frames_by word m.Discard at around fs = ended goes_on fs
frames_by word m.Break at around fs = ended (broken_off around) fs
frames_by word m.Continue at around fs = ended (continued around) fs
frames_by word m.Returned at around fs = Returned ∷ fs
frames_by word m.Return at around fs = return_ended fs
frames_by word m.Begin at around fs = began word at around fs
frames_by word m.Open at around fs = opened word fs
frames_by word m.Block at around fs = block_closed fs
frames_by word m.Condition at around fs = with_condition fs
frames_by word m.BreakIf at around fs = ended may_break fs
frames_by word m.Else at around fs = with_else fs
frames_by word m.If at around fs = if_ended fs
frames_by word m.While at around fs = loop_ended fs
frames_by word m.For at around fs = loop_ended fs
frames_by word m.Loop at around fs = loop_ended fs
frames_by word m.Continuing at around fs = continuing_ended fs
frames_by word m.Selector at around fs = switch_opened fs
frames_by word m.Case at around fs = with_clause fs
frames_by word m.DefaultSelector at around fs = with_default fs
frames_by word m.Switch at around fs = switch_ended fs
frames_by word m.Function at around fs = []
frames_by word other at around fs = fs

-- What is around from then on: behind a statement with blocks, what was around it.
abbrev pub around_by : Kind → Mark → List Frame → Around → Around
around_by word m.Begin fs around = inside word around
around_by word m.If fs around = outside_of (begun_on (below fs)) around
around_by word m.While fs around = outside_of (begun_on (below fs)) around
around_by word m.For fs around = outside_of (begun_on (below fs)) around
around_by word m.Loop fs around = outside_of (begun_on (below fs)) around
around_by word m.Continuing fs around = outside_of (begun_on (below fs)) around
around_by word m.Switch fs around = outside_of (begun_on (below fs)) around
around_by word m.Function fs around = in_function
around_by word other fs around = around

-- `-> T`
abbrev pub has_result_by : Mark → Bool → Bool
has_result_by m.Result has_result = true
has_result_by m.Function has_result = false
has_result_by other has_result = has_result

-- What is told: of `break` and `continue` that nothing around takes, of a `return` in a `continuing` or without the function's
-- value, of the end of a function with a result that may be reached, of a loop that no way leads out of, and of a `switch` that
-- hasn't one `default`. A loop and a `switch` are told at their word.
abbrev pub told_by : Mark → ℕ → State → List Broken
told_by m.Break at s = told_if (not s.around.may_break) rules.Behaviour (last_of (at - 1)) s.told
told_by m.Continue at s = told_if (not s.around.may_continue) rules.Behaviour (last_of (at - 1)) s.told
told_by m.Return at s = told_if (not (is_returned s.frames) && s.has_result) rules.Type (last_of (at - 1))
    (told_if s.around.in_continuing rules.Behaviour (last_of (at - 1)) s.told)
told_by m.Block at s = told_if (may_fall_off s.frames && s.has_result) rules.Behaviour (last_of at) s.told
told_by m.While at s = told_if (goes_nowhere (loop_on s.frames)) rules.Behaviour (last_of (word_of (begun_on (below s.frames)))) s.told
told_by m.For at s = told_if (goes_nowhere (loop_on s.frames)) rules.Behaviour (last_of (word_of (begun_on (below s.frames)))) s.told
told_by m.Loop at s = told_if (goes_nowhere (loop_on s.frames)) rules.Behaviour (last_of (word_of (begun_on (below s.frames)))) s.told
told_by m.DefaultSelector at s = told_if (clauses_on s.frames).1 rules.Switch (last_of at) s.told
told_by m.Switch at s = told_if (not (clauses_on s.frames).1) rules.Switch (last_of (word_of (begun_on (below s.frames)))) s.told
told_by other at s = s.told

-- where an event stands it is allowed: what isn't is told
abbrev pub is_allowed : Mark → State → Bool
is_allowed m.Break s = s.around.may_break
is_allowed m.Continue s = s.around.may_continue
is_allowed m.Return s = not s.around.in_continuing && not (not (is_returned s.frames) && s.has_result)
is_allowed m.Block s = not (may_fall_off s.frames && s.has_result)
is_allowed m.While s = not (goes_nowhere (loop_on s.frames))
is_allowed m.For s = not (goes_nowhere (loop_on s.frames))
is_allowed m.Loop s = not (goes_nowhere (loop_on s.frames))
is_allowed m.DefaultSelector s = not (clauses_on s.frames).1
is_allowed m.Switch s = (clauses_on s.frames).1
is_allowed other s = true

abbrev pub behind : Kind → Mark → ℕ → State → State
behind word mark at s = record {
  frames = frames_by word mark at s.around s.frames;
  around = around_by word mark s.frames s.around;
  has_result = has_result_by mark s.has_result;
  told = told_by mark at s;
}

-- one event behind the other
abbrev pub behind_all : List Token → List Event → State → State
behind_all tokens [] s = s
behind_all tokens (e ∷ events) s = behind_all tokens events (behind (kind_at tokens e.at) e.mark e.at s)

-- what is told of where control goes on in a module with these events
abbrev pub told_of : List Token → List Event → List Broken
told_of tokens events = (behind_all tokens events outside).told

-- each event is allowed behind those in front of it
abbrev pub AreAllowed : List Token → List Event → Type 0
AreAllowed tokens events = (before after : List Event) (e : Event) → events ≡ before ++ e ∷ after
    → is_allowed e.mark (behind_all tokens before outside) ≡ true
