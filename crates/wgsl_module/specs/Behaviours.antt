-- Where control goes on from a statement (WGSL, "Behaviors").
use Rattle.std.specs.Prelude.{Bool, true, false, not, ◌||◌, cond}
use Rattle.wgsl_module.specs.declared.behaviour.Behaviour.{Behaviour}

-- `x = 1;`, `{ }`
abbrev pub goes_on : Behaviour
goes_on = record { next = true; breaks = false; continues = false; returns = false }

-- a `switch` without clauses
abbrev pub nowhere : Behaviour
nowhere = record { next = false; breaks = false; continues = false; returns = false }

abbrev pub break_alone : Behaviour
break_alone = record { next = false; breaks = true; continues = false; returns = false }

abbrev pub continue_alone : Behaviour
continue_alone = record { next = false; breaks = false; continues = true; returns = false }

abbrev pub return_alone : Behaviour
return_alone = record { next = false; breaks = false; continues = false; returns = true }

-- `break if c;`
abbrev pub may_break : Behaviour
may_break = record { next = true; breaks = true; continues = false; returns = false }

-- `if c { } else { }`
abbrev pub either : Behaviour → Behaviour → Behaviour
either a b = record {
  next = a.next || b.next;
  breaks = a.breaks || b.breaks;
  continues = a.continues || b.continues;
  returns = a.returns || b.returns;
}

abbrev pub without_next : Behaviour → Behaviour
without_next a = record { next = false; breaks = a.breaks; continues = a.continues; returns = a.returns }

-- One statement behind another. What can't be reached is allowed, and changes nothing: `return; x = 1;`
abbrev pub followed_by : Behaviour → Behaviour → Behaviour
followed_by a b = cond a.next (either (without_next a) b) a

-- the body of a loop with its `continuing`
abbrev pub continued_by : Behaviour → Behaviour → Behaviour
continued_by a b = cond (a.next || a.continues) (either a b) a

-- A loop with that body, which may end by its condition or not. `loop { }` goes nowhere
abbrev pub looped : Bool → Behaviour → Behaviour
looped has_condition a = record { next = has_condition || a.breaks; breaks = false; continues = false; returns = a.returns }

-- a `switch`, by what its clauses do: its `break` ends it
abbrev pub switched : Behaviour → Behaviour
switched a = record { next = a.next || a.breaks; breaks = false; continues = a.continues; returns = a.returns }

-- `loop { }`: no way leads on
abbrev pub never_ends : Behaviour → Bool
never_ends a = not (a.next || a.returns)
