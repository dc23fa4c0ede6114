use Rattle.std.proofs.Common.{◌≡◌, drop, map}
use Rattle.wgsl_standard.proofs.CommonForms.{view, types_given, each_fits}
use Rattle.wgsl_standard.proofs.forms.lists.each_fits.Given as goal

abbrev pub invariant-loop-i : goal.invariant-loop-i
invariant-loop-i l =
    each_fits (map view (drop l.i l.types)) (types_given (drop l.i l.values)) ≡ each_fits (map view l.types) (types_given l.values)
