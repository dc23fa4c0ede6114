use Rattle.std.proofs.Common.{◌≡◌, List, [], reverse, vec_len}
use Rattle.wgsl_module.specs.Arguments.{AreArguments}
use Rattle.wgsl_module.specs.States.{state}
use Rattle.wgsl_typing.specs.declared.known.Part.{Part}
use Rattle.wgsl_module.proofs.checker.Checker.arguments.Given as goal

-- the arguments that are left, behind those that are read, are those of all
abbrev pub invariant-loop-item : goal.invariant-loop-item
invariant-loop-item l =
    ((ys : List Part) → AreArguments l.takes_names (state l.self).stack.context (reverse l.list.items) l.arguments.parts.items ys
    → AreArguments l.takes_names (state l.fn.self).stack.context (reverse l.fn.list.items) [] ys) × (state l.self ≡ state l.fn.self)

abbrev pub decreases-loop-item : goal.decreases-loop-item
decreases-loop-item l = vec_len l.list
