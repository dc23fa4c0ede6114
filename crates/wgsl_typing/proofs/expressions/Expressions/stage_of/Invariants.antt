use Rattle.std.proofs.Common.{◌≡◌, drop}
use Rattle.wgsl_typing.proofs.Common.{later, stage_of}
use Rattle.wgsl_typing.proofs.expressions.Expressions.stage_of.Given as goal

-- the stage so far, and that of the arguments that are left
abbrev pub invariant-loop-argument : goal.invariant-loop-argument
invariant-loop-argument l = later l.stage (stage_of (drop l.argument-index l.arguments)) ≡ stage_of l.arguments
