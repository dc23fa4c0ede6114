use Rattle.std.proofs.Common.{◌≡◌, ◌≤◌, drop}
use Rattle.wgsl_module.specs.Declarations.{name_in}
use Rattle.wgsl_module.proofs.declaration.name_of.Given as goal

-- the events so far have no name, and open no more than one each
abbrev pub invariant-loop-event : goal.invariant-loop-event
invariant-loop-event l = (name_in 0 l.events ≡ name_in l.depth (drop l.event-index l.events)) × (l.depth ≤ l.event-index)
