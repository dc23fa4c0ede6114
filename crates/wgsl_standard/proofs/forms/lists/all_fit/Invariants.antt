use Rattle.std.proofs.Common.{◌≡◌, drop}
use Rattle.wgsl_standard.proofs.CommonForms.{view, types_given, all_fit}
use Rattle.wgsl_standard.proofs.forms.lists.all_fit.Given as goal

abbrev pub invariant-loop-value : goal.invariant-loop-value
invariant-loop-value l = all_fit (view l.ty) (types_given (drop l.value-index l.values)) ≡ all_fit (view l.ty) (types_given l.values)
