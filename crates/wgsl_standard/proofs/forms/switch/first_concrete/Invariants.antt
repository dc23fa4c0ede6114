use Rattle.std.proofs.Common.{◌≡◌, drop, map}
use Rattle.wgsl_standard.proofs.CommonForms.{first_concrete, given}
use Rattle.wgsl_standard.proofs.forms.switch.first_concrete.Given as goal

abbrev pub invariant-loop-value : goal.invariant-loop-value
invariant-loop-value l = first_concrete (map given (drop l.value-index l.values)) ≡ first_concrete (map given l.values)
