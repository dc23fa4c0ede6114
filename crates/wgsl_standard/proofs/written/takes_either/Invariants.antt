use Rattle.std.proofs.Common.{◌≡◌, drop}
use Rattle.wgsl_standard.proofs.Common.{list_any, in_order, is_scalar_or_vector}
use Rattle.wgsl_standard.proofs.written.takes_either.Given as goal

abbrev pub invariant-loop-index : goal.invariant-loop-index
invariant-loop-index l = list_any is_scalar_or_vector (drop l.index (in_order l.parameters)) ≡ list_any is_scalar_or_vector (in_order l.parameters)
