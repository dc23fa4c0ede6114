use Rattle.std.proofs.Common.{◌≡◌, drop}
use Rattle.wgsl_typing.specs.Calls.{are_typed}
use Rattle.wgsl_typing.proofs.call.are_typed.Given as goal

-- whether the arguments that are left have types
abbrev pub invariant-loop-argument : goal.invariant-loop-argument
invariant-loop-argument l = are_typed (drop l.argument-index l.arguments) ≡ are_typed l.arguments
