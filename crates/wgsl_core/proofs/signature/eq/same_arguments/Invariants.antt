use Rattle.std.proofs.Common.{◌≡◌, ◌↔◌, drop, map}
use Rattle.wgsl_core.specs.View.{view}
use Rattle.wgsl_core.proofs.signature.eq.same_arguments.Given as goal

abbrev pub invariant-loop-i : goal.invariant-loop-i
invariant-loop-i l = (map view (drop l.i l.a.items) ≡ map view (drop l.i l.b.items)) ↔ (map view l.a.items ≡ map view l.b.items)
