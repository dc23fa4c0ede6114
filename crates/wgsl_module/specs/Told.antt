-- What is told of a text, without the messages.
use Rattle.std.specs.Prelude.{◌+◌, ◌-◌, ◌^◌, List, Contains, map, min}
use Rattle.wgsl_typing.specs.declared.fault.Fault.{Fault}
use Rattle.wgsl_typing.specs.declared.fault.Place.{Place}
use Rattle.wgsl_typing.specs.declared.fault.Rule.{Rule}
use Rattle.wgsl_typing.specs.declared.fault.Rule.TheVariants as rules
use Rattle.wgsl_reader.specs.declared.module.Misread.{Misread}

-- the rule that is broken, and where
pub record Broken : Type 0 where
  pub rule : Rule
  pub place : Place

abbrev pub broken : Fault → Broken
broken f = record { rule = f.rule; place = f.place }

-- a declaration that the grammar doesn't read: the token that can't stand there
abbrev pub unread : Misread → Broken
unread m = record { rule = rules.Syntax; place = record { from = m.at; to = min (m.at + 1) (2 ^ 64 - 1) } }

-- Each of these is told by one of the faults.
abbrev pub AreTold : List Broken → List Fault → Type 0
AreTold bs faults = (b : Broken) → Contains bs b → Contains (map broken faults) b
