use Rattle.std.proofs.Common.{◌≡◌, drop, map}
use Rattle.wgsl_standard.proofs.CommonForms.{are_constant, given}
use Rattle.wgsl_standard.proofs.forms.switch.are_constant.Given as goal

abbrev pub invariant-loop-value : goal.invariant-loop-value
invariant-loop-value l = are_constant (map given (drop l.value-index l.values)) ≡ are_constant (map given l.values)
