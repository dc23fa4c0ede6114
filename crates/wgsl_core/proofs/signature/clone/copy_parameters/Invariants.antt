use Rattle.std.proofs.Common.{◌≡◌, take, map}
use Rattle.wgsl_core.specs.Instances.{parameter_view}
use Rattle.wgsl_core.proofs.signature.clone.copy_parameters.Given as goal

abbrev pub invariant-loop-parameter : goal.invariant-loop-parameter
invariant-loop-parameter l = map parameter_view l.copies.items ≡ map parameter_view (take l.parameter-index l.parameters)
