use Rattle.wgsl_core.specs.View.{view}
use Rattle.wgsl_core.proofs.Layouts.{least_of_unsized, least_of_sized}
use Rattle.wgsl_core.proofs.layout.least_array_size.Goals as goal

pub returns-in-None : goal.returns-in-None
returns-in-None c = least_of_unsized c.args.count (view c.args.ty.now) c.measure-element.result c.rounded_up-stride.result c.in-None.is c.measure-element.ensures c.rounded_up-stride.ensures

pub returns-in-Some : goal.returns-in-Some
returns-in-Some c =
    least_of_sized c.args.count c.in-Some.field-0 (view c.args.ty.now) c.measure-element.result c.rounded_up-stride.result c.array_size.result
    c.in-Some.is c.measure-element.ensures c.rounded_up-stride.ensures c.array_size.ensures
