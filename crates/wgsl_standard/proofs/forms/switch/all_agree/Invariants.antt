use Rattle.std.proofs.Common.{◌≡◌, drop, map}
use Rattle.wgsl_standard.proofs.CommonForms.{all_agree, given}
use Rattle.wgsl_standard.proofs.forms.switch.all_agree.Given as goal

abbrev pub invariant-loop-value : goal.invariant-loop-value
invariant-loop-value l = all_agree l.integer (map given (drop l.value-index l.values)) ≡ all_agree l.integer (map given l.values)
