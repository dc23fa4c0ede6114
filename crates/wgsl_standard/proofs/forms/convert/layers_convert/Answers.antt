use Rattle.std.proofs.Common.{refl}
use Rattle.wgsl_rules.specs.types.Types.{scalar}
use Rattle.wgsl_standard.proofs.Layers.{to_layer, to_other_layer}
use Rattle.wgsl_standard.proofs.forms.convert.layers_convert.Goals as goal

pub returns-then-is : goal.returns-then-is
returns-then-is c =
    to_layer c.args.from _ _ c.args.to (scalar c.args.target) c.is.result c.scalars_convert.result refl c.is.ensures c.if-is.true c.scalars_convert.ensures

pub returns-else-is : goal.returns-else-is
returns-else-is c = to_other_layer c.args.from _ _ c.args.to (scalar c.args.target) c.is.result refl c.is.ensures c.if-is.false
