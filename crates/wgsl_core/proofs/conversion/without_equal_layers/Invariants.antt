use Rattle.std.proofs.Common.{◌↔◌, ℕ}
use Rattle.wgsl_rules.specs.conversion.Conversion.{Converts, ConvertsIn}
use Rattle.wgsl_core.specs.View.{view}
use Rattle.wgsl_core.specs.internal.Forms.{layers}
use Rattle.wgsl_core.proofs.conversion.without_equal_layers.Given as goal

-- the types inside convert as the types do
abbrev pub invariant-loop-element : goal.invariant-loop-element
invariant-loop-element l = record {
  rank : (w : ℕ) → Converts (view l.a) (view l.b) w ↔ Converts (view l.from) (view l.to) w;
  steps : (w n : ℕ) → ConvertsIn (view l.a) (view l.b) w n ↔ ConvertsIn (view l.from) (view l.to) w n;
}

abbrev pub decreases-loop-element : goal.decreases-loop-element
decreases-loop-element l = layers (view l.from)
