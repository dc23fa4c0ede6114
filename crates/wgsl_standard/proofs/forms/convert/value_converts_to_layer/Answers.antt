use Rattle.std.proofs.Common.{refl}
use Rattle.wgsl_rules.specs.types.Types.{scalar, within}
use Rattle.wgsl_standard.proofs.Layers.{to_no_scalar}
use Rattle.wgsl_standard.proofs.forms.convert.value_converts_to_layer.Goals as goal

pub returns-in-Single : goal.returns-in-Single
returns-in-Single c = rw c.in-Single.is (to_no_scalar c.args.source (within c.args.layer (scalar c.args.target)) refl)
