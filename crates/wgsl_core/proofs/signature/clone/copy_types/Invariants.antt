use Rattle.std.proofs.Common.{◌≡◌, take, map}
use Rattle.wgsl_core.specs.View.{view}
use Rattle.wgsl_core.proofs.signature.clone.copy_types.Given as goal

abbrev pub invariant-loop-ty : goal.invariant-loop-ty
invariant-loop-ty l = map view l.copies.items ≡ map view (take l.ty-index l.types)
