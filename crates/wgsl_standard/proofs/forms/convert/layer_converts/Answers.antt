use Rattle.std.proofs.Common.{sym}
use Rattle.wgsl_standard.proofs.Layers.{to_layer, to_other_layer, to_no_layer}
use Rattle.wgsl_standard.proofs.forms.convert.layer_converts.Goals as goal

pub returns-then-is : goal.returns-then-is
returns-then-is c =
    to_layer c.args.layer _ _ c.in-Some.found _ c.is.result c.scalar_converts.result (sym c.in-Some.ensures) c.is.ensures c.if-is.true c.scalar_converts.ensures

pub returns-else-is : goal.returns-else-is
returns-else-is c =
    to_other_layer c.args.layer _ _ c.in-Some.found _ c.is.result (sym c.in-Some.ensures) c.is.ensures c.if-is.false

pub returns-in-None : goal.returns-in-None
returns-in-None c = to_no_layer c.args.layer _ _ (sym c.in-None.ensures)
