use Rattle.std.proofs.Common.{◌≡◌, drop}
use Rattle.wgsl_standard.proofs.CommonForms.{types_given, all_load}
use Rattle.wgsl_standard.proofs.forms.array.all_load.Given as goal

abbrev pub invariant-loop-value : goal.invariant-loop-value
invariant-loop-value l = all_load (types_given (drop l.value-index l.values)) ≡ all_load (types_given l.values)
