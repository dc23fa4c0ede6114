use Rattle.std.proofs.Common.{◌≡◌, drop}
use Rattle.wgsl_constants.specs.declared.call.Arguments.TheVariants.{Zero}
use Rattle.wgsl_typing.specs.Computed.{with_values}
use Rattle.wgsl_typing.proofs.constant.arguments_of.Given as goal

-- the arguments so far, and the values that are left
abbrev pub invariant-loop-value : goal.invariant-loop-value
invariant-loop-value l = with_values l.values Zero ≡ with_values (drop l.value-index l.values) l.given
