use Rattle.std.proofs.Common.{◌≡◌, drop}
use Rattle.wgsl_standard.specs.internal.Binding.{first_target}
use Rattle.wgsl_standard.proofs.letter.first_target.Given as goal

abbrev pub invariant-loop-scalar : goal.invariant-loop-scalar
invariant-loop-scalar l = first_target l.concrete l.kind l.from (drop l.scalar-index l.scalars) ≡ first_target l.concrete l.kind l.from l.scalars
