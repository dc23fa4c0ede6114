use Rattle.std.proofs.Common.{sym}
use Rattle.wgsl_standard.proofs.Loads.{from_layer, from_other_layer}
use Rattle.wgsl_standard.proofs.forms.convert.type_converts_to_layer.Goals as goal

pub returns-then-is : goal.returns-then-is
returns-then-is c =
    from_layer _ c.in-Some.found _ c.args.layer _ c.is.result c.converts_to_scalar.result (sym c.in-Some.ensures) c.is.ensures c.if-is.true c.converts_to_scalar.ensures

pub returns-else-is : goal.returns-else-is
returns-else-is c =
    from_other_layer _ c.in-Some.found _ c.args.layer _ c.is.result (sym c.in-Some.ensures) c.is.ensures c.if-is.false
