use Rattle.std.proofs.Common.{◌≡◌, drop, map}
use Rattle.wgsl_standard.proofs.CommonForms.{view, are_parameters}
use Rattle.wgsl_standard.proofs.forms.lists.are_parameters.Given as goal

abbrev pub invariant-loop-ty : goal.invariant-loop-ty
invariant-loop-ty l = are_parameters (map view (drop l.ty-index l.types)) ≡ are_parameters (map view l.types)
