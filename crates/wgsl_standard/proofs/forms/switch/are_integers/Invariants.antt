use Rattle.std.proofs.Common.{◌≡◌, drop, map}
use Rattle.wgsl_standard.proofs.CommonForms.{are_integers, given}
use Rattle.wgsl_standard.proofs.forms.switch.are_integers.Given as goal

abbrev pub invariant-loop-value : goal.invariant-loop-value
invariant-loop-value l = are_integers (map given (drop l.value-index l.values)) ≡ are_integers (map given l.values)
