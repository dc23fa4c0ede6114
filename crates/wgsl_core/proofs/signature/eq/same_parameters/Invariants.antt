use Rattle.std.proofs.Common.{◌≡◌, ◌↔◌, drop, map}
use Rattle.wgsl_core.specs.Instances.{parameter_view}
use Rattle.wgsl_core.proofs.signature.eq.same_parameters.Given as goal

abbrev pub invariant-loop-i : goal.invariant-loop-i
invariant-loop-i l = (map parameter_view (drop l.i l.a.items) ≡ map parameter_view (drop l.i l.b.items)) ↔ (map parameter_view l.a.items ≡ map parameter_view l.b.items)
