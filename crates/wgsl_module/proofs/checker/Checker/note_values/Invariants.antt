use Rattle.std.proofs.Common.{◌≡◌}
use Rattle.wgsl_module.specs.States.{noted, state}
use Rattle.wgsl_module.proofs.checker.Checker.note_values.Given as goal

-- those that are noted, and those that are left
abbrev pub invariant-loop-value : goal.invariant-loop-value
invariant-loop-value l = noted l.value-iterator.rest.items (state l.self) ≡ noted l.fn.values.items (state l.fn.self)
